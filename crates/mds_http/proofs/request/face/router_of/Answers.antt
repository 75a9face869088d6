use Rattle.std.proofs.Common.{refl}
use Rattle.matchit.proofs.OnLiterals.{matchit_on_literals}
use Rattle.mds_http.specs.Routes.{routes}
use Rattle.mds_http.proofs.request.face.router_of.Goals as goal

pub add_route-requires : goal.add_route-requires
unfolding matchit_on_literals
add_route-requires c = rw c.new-router.ensures refl

pub add_route-requires-2 : goal.add_route-requires-2
unfolding matchit_on_literals
add_route-requires-2 c = rw (c.in_ok-add_route.ensures, c.new-router.ensures) refl

pub add_route-requires-3 : goal.add_route-requires-3
unfolding matchit_on_literals
add_route-requires-3 c = rw (c.in_ok-add_route-2.ensures, c.in_ok-add_route.ensures, c.new-router.ensures) refl

pub add_route-requires-4 : goal.add_route-requires-4
unfolding matchit_on_literals
add_route-requires-4 c = rw (c.in_ok-add_route-3.ensures, c.in_ok-add_route-2.ensures, c.in_ok-add_route.ensures, c.new-router.ensures) refl

pub add_route-requires-5 : goal.add_route-requires-5
unfolding matchit_on_literals
add_route-requires-5 c = rw (c.in_ok-add_route-4.ensures, c.in_ok-add_route-3.ensures, c.in_ok-add_route-2.ensures, c.in_ok-add_route.ensures, c.new-router.ensures) refl

pub returns : goal.returns
unfolding matchit_on_literals routes
returns c = rw (c.in_ok-add_route-5.ensures, c.in_ok-add_route-4.ensures, c.in_ok-add_route-3.ensures, c.in_ok-add_route-2.ensures, c.in_ok-add_route.ensures, c.new-router.ensures) refl
