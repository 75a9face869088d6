-- Why a route isn't taken in.
use Rattle.std.proofs.Common.{◌≡◌, ℕ, List, Some, None, Result, Ok, Err, refl, sym, ◌∙◌}
use Rattle.matchit.specs.Route.{Scan}
use Rattle.matchit.specs.Router.{nearest, Refused, InsertsRead}
use Rattle.matchit.specs.declared.error.InsertError.{InsertError}
use Rattle.matchit.specs.declared.error.InsertError.TheVariants.{Conflict, InvalidParam, InvalidParamSegment, InvalidCatchAll, OutOfMemory}
use Rattle.mds_http.specs.Routes.{Route, Routes, Fits, with_scan}

-- one that goes with the others is refused only for want of memory
refused_memory : (pattern : List ℕ) (rows : Routes) (error : InsertError) → nearest pattern rows ≡ None → Refused pattern rows error → error ≡ OutOfMemory
refused_memory pattern rows OutOfMemory none is = refl
refused_memory pattern rows (Conflict with) none is = let no : None ≡ Some is.0 = sym none ∙ is.1 in cc
refused_memory pattern rows InvalidParam none is = absurd is
refused_memory pattern rows InvalidParamSegment none is = absurd is
refused_memory pattern rows InvalidCatchAll none is = absurd is

pub inserts_memory : (read : Result Scan InsertError) (route : Route) (old new : Routes) (error : InsertError) → Fits read old → InsertsRead read route old new (Err error) → error ≡ OutOfMemory
inserts_memory (Ok scan) route old new error fits is = refused_memory scan.pattern old error fits is.1
inserts_memory (Err told) route old new error fits is = absurd fits

-- and else it is there
pub inserts_route : (read : Result Scan InsertError) (route : Route) (old new : Routes) (done : Unit {0}) → Fits read old → InsertsRead read route old new (Ok done) → new ≡ with_scan read route old
inserts_route (Ok scan) route old new done fits is = is.1
inserts_route (Err told) route old new done fits is = absurd fits
