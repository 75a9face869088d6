-- The first line of a journal.
use Rattle.std.specs.Prelude.{ℕ, List, codes}

-- its text: the form and the version
abbrev pub form_line : List ℕ
form_line = codes "{\"form\":\"mds_city\",\"version\":1}"
