use Rattle.std.proofs.Common.{◌≡◌, ◌≤◌, drop, true}
use Rattle.std.specs.List.{list_all}
use Rattle.std.specs.Char.{is_ascii_digit}
use Rattle.std.specs.Str.Parse.{digits_value, digits_value_after}
use Rattle.mds_table.specs.Json.{max_bytes}
use Rattle.mds_http.proofs.request.field.length_of.Given as goal

-- the number so far, with the digits that are left, is the whole
abbrev pub invariant-loop-digit : goal.invariant-loop-digit
invariant-loop-digit l = record {
  value : digits_value_after 10 l.len (drop l.digit-index l.digits) ≡ digits_value 10 l.digits;
  few : l.len ≤ max_bytes;
  digits : list_all is_ascii_digit (drop l.digit-index l.digits) ≡ true;
}
