use Rattle.std.proofs.Common.{◌≡◌, ap, ◌∙◌, subst}
use Rattle.std.specs.FinMap as map
use Rattle.cv_table.specs.Order.{actor_cmp}
use Rattle.cv_protocol.specs.declared.moving.Location.{Location}
use Rattle.cv_protocol.specs.Actors.{LiveState}
use Rattle.cv_protocol.specs.Travel.{restore}
use Rattle.cv_protocol.specs.NodeState.{NodeState}
use Rattle.cv_protocol.specs.Deliveries.{accepted_state}
use Rattle.cv_state.specs.Arrivals.{Places, all_hinted, hinted, places_of}
use Rattle.cv_state.proofs.Raises.{arrives, own_hint, with_places}
use Rattle.cv_state.proofs.state.State.arrive.Goals as goal

pub returns-clause-ok : goal.returns-clause-ok
returns-clause-ok c =
    let i = c.self.inside in
    let s : NodeState = record { spec = i.spec; stamp = i.stamp; now = i.moment; known = i.known; live = i.live.map; moves = i.moves; hints = i.hints.map } in
    let a = c.args.actor in
    let n = c.args.attempt in
    let travelled = c.args.state.now in
    let known = c.accept.new.known in
    let moves = c.accept.new.self in
    let p : Places = places_of c.take_hint.new.hints.map c.take_hint.new.live.map in
    let q : Places = places_of c.take_hints.new.hints.map c.take_hints.new.live.map in
    let restored : c.restore.result ≡ restore travelled n i.moment = cc (c.restore.ensures, c.in_ok-copy.ensures, c.copy-2.view_is) in
    let lives : c.insert.new.self.map ≡ map.insert i.live.map a (restore travelled n i.moment) = c.in-Ok.ensures.ok ∙ ap (λ (m : map.FinMap actor_cmp LiveState). map.insert m a c.restore.result) c.reserve.ensures.map ∙ ap (map.insert i.live.map a) restored in
    let own : p ≡ hinted (places_of i.hints.map c.insert.new.self.map) (own_hint s a n) = c.take_hint.ensures.places ∙ ap (λ (m : map.FinMap actor_cmp Location). hinted (places_of m c.insert.new.self.map) (own_hint s a n)) c.reserve-2.ensures.map in
    let others : q ≡ all_hinted travelled.hints p = c.take_hints.ensures ∙ ap (λ hints. all_hinted hints p) (c.as_slice-hints.ensures ∙ c.hints.ensures) in
    let next : NodeState = with_places (record s { known = known }) q moves in
    subst (λ (s : NodeState). next ≡ accepted_state s a n travelled) c.self.view_is (arrives s a n travelled known moves p q c.insert.new.self.map c.in_ok-accept.ensures.known c.in_ok-accept.ensures.moves lives own others)
