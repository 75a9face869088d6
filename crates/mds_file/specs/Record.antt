-- What a record holds of a call.
use Rattle.std.specs.Prelude.{ℕ, List}
use Rattle.std.specs.Coded.{Coded, coded×, coded_ℕ, coded_list}

-- numbers that say which call it was and how it ended, and bytes
abbrev pub Entry : Type 0
Entry = List ℕ × List ℕ

abbrev pub entries_code : Coded (List Entry)
entries_code = coded_list (coded× (coded_list coded_ℕ) (coded_list coded_ℕ))
