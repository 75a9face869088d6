-- The methods of routes.
use Rattle.std.specs.Prelude.{ℕ, List, codes}
use Rattle.mds_http.specs.declared.request.method.Method.{Method}
use Rattle.mds_http.specs.declared.request.method.Method.TheVariants.{Get, Post}

-- the name of a method
abbrev pub method_name : Method → List ℕ
method_name Get = codes "GET"
method_name Post = codes "POST"
