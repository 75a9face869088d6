-- The routes, and what the target of a request is about.
use Rattle.std.specs.Prelude.{◌≡◌, ℕ, zero, suc, List, [], ◌∷◌, Result, Ok, Err, Option}
use Rattle.std.specs.Prelude.{Some, None, option_map, option_and_then, ◌==◌, codes}
use Rattle.std.specs.List.{before_first, after_first}
use Rattle.uuid.specs.Text.{parsed}
use Rattle.matchit.specs.Rows.{RowsOf}
use Rattle.matchit.specs.Seek.{first}
use Rattle.matchit.specs.Order.{placed}
use Rattle.matchit.specs.Route.{Scan, parse_route}
use Rattle.matchit.specs.Router.{RouteOf, route_from, nearest}
use Rattle.matchit.specs.declared.error.InsertError.{InsertError}
use Rattle.mds_core.specs.declared.key.Key.{Key}
use Rattle.mds_http.specs.declared.request.aim.Aim.{Aim}
use Rattle.mds_http.specs.declared.request.aim.Aim.TheVariants.{Vehicles, Events}
use Rattle.mds_http.specs.declared.request.aim.Aim.TheVariants.{One, History, Rows}

-- a route: what its requests are about, whatever vehicle they name
abbrev pub Route : Type 0
Route = Aim (Unit {0})

-- what a router holds
abbrev pub Routes : Type 0
Routes = RowsOf (RouteOf Route)

-- the same with a route, where its text can be read
abbrev pub with_scan : Result Scan InsertError → Route → Routes → Routes
with_scan (Ok scan) route rows = placed (scan.pattern, route_from scan route) rows
with_scan (Err error) route rows = rows

-- a route can be read, and goes with those that a router holds
abbrev pub Fits : Result Scan InsertError → Routes → Type 0
Fits (Ok scan) rows = nearest scan.pattern rows ≡ None
Fits (Err error) rows = ⊥

-- the same with each route of a list, by its text
abbrev pub with_routes : List (List ℕ × Route) → Routes → Routes
with_routes [] rows = rows
with_routes (route ∷ rest) rows = with_routes rest (with_scan (parse_route route.0) route.1 rows)

-- the five routes
unfoldable pub routes : Routes
routes =
    with_routes
    ((codes "/vehicles", Vehicles)
    ∷ (codes "/events", Events)
    ∷ (codes "/vehicles/{provider}/{device}", One tt)
    ∷ (codes "/vehicles/{provider}/{device}/events", History tt)
    ∷ (codes "/table", Rows)
    ∷ [])
    []

-- the route of a path
abbrev pub route_at : List ℕ → Option Route
route_at path = option_map (λ found. found.value) (first routes path)

-- the path of a target: all before the first question mark
abbrev pub path_of : List ℕ → List ℕ
path_of target = before_first (λ byte. byte == 63) target

-- the pieces of a path between its slashes, counted from 0: the piece before the first slash
abbrev pub piece : ℕ → List ℕ → List ℕ
piece zero path = before_first (λ byte. byte == 47) path
piece (suc place) path = piece place (after_first (λ byte. byte == 47) path)

-- the vehicle that a path names: the identifiers of a provider and of a device
abbrev pub key_in : List ℕ → Option Key
key_in path =
    option_and_then (λ provider. option_map
    (λ device. record { provider = provider; device = device })
    (parsed (piece 3 path))) (parsed (piece 2 path))

-- what a request of a route is about, with the vehicle that its path names
abbrev pub aim_on : Route → List ℕ → Option (Aim Key)
aim_on Vehicles path = Some Vehicles
aim_on Events path = Some Events
aim_on (One any) path = option_map One (key_in path)
aim_on (History any) path = option_map History (key_in path)
aim_on Rows path = Some Rows

-- what a request of a target is about, where it has a route and its identifiers are ones
abbrev pub aim_in : List ℕ → Option (Aim Key)
aim_in target = option_and_then (λ route. aim_on route (path_of target)) (route_at (path_of target))
