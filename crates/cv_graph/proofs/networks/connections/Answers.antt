use Rattle.std.proofs.Common.{◌≡◌, ◌↔◌, ◌<◌, ◌≤◌, ℕ, List, map, length, sym, ◌∙◌, ap, subst, arith}
use Rattle.std.proofs.lemmas.Result.{err_from_is_err_and, IfOk-weaker}
use Rattle.std.specs.Global.{Vec}
use Rattle.cv_expand.specs.Bodies.{Among}
use Rattle.cv_kinds.specs.declared.network.Connection.{Connection}
use Rattle.cv_kinds.specs.Wired.{Rising}
use Rattle.cv_graph.specs.declared.port.Wire.{Wire}
use Rattle.cv_graph.specs.declared.ways.Way.{Way}
use Rattle.cv_graph.specs.Checks.{feed_checks, fed_checks}
use Rattle.cv_graph.specs.Links.{way_of, supplied, AreSupplied, links_from}
use Rattle.cv_graph.specs.Meaning.{Connects}
use Rattle.cv_graph.specs.Ports.{actor_places}
use Rattle.cv_graph.specs.Ways.{AreWithin, AreEnded}
use Rattle.cv_graph.proofs.Connecting.{links_connect, links_rising}
use Rattle.cv_graph.proofs.Following.{IsJoined, are_supplied}
use Rattle.cv_graph.proofs.Judging.{judges_behind, faulty_front}
use Rattle.cv_graph.proofs.Whole.{places_apart, small_sources, ways_within, few_links}
use Rattle.cv_graph.proofs.networks.connections.Goals as goal

pub join_feeds-requires-clause-apart : goal.join_feeds-requires-clause-apart
join_feeds-requires-clause-apart c = places_apart c.args.parts.now c.requires.distinct

pub returns-in_err-joined-clause-judged : goal.returns-in_err-joined-clause-judged
returns-in_err-joined-clause-judged c =
    let p = err_from_is_err_and c.from_residual-in_err-joined.result c.from_residual-in_err-joined.ensures.1 in
    rw (p.1, p.2) (faulty_front c.args.parts.now (feed_checks _ c.args.parts.now.feeds) (fed_checks c.args.parts.now.actors) c.in_err-joined.field-0.0 c.in_err-joined.ensures.judged)

pub ways_of-requires-clause-small : goal.ways_of-requires-clause-small
ways_of-requires-clause-small c = λ w p among is less.
    let below : p.place < length c.args.parts.now.actors = omega (arith, less, c.len.ensures) in
    small_sources c.args.parts.now c.in_ok-joined.joined.wires.items w p c.in_ok-joined.ensures.wires (subst (λ (ws : List Wire). Among ws w) c.as_slice-wires.ensures.value among) is below

pub follow_all-ends-requires : goal.follow_all-ends-requires
follow_all-ends-requires c =
    let parts = c.args.parts.now in
    let feeders = c.in_ok-joined.joined.feeders in
    let wires = c.in_ok-joined.joined.wires.items in
    let actors = length c.args.parts.now.actors in
    let begun : c.in_ok-ways.ways.items ≡ map (way_of (length c.args.parts.now.actors) c.in_ok-joined.joined.feeders) c.in_ok-joined.joined.wires.items =
    c.in_ok-ways.ensures ∙ ap (λ (n : ℕ). map (way_of n feeders) c.as_slice-wires.result.now) c.len.ensures ∙ ap (λ (ws : List Wire). map (way_of actors feeders) ws) c.as_slice-wires.ensures.value in
    subst AreWithin (sym begun) (ways_within actors feeders wires c.in_ok-joined.ensures.feeders)

pub connections_of-requires-clause-supplied : goal.connections_of-requires-clause-supplied
connections_of-requires-clause-supplied c =
    let parts = c.args.parts.now in
    let feeders = c.in_ok-joined.joined.feeders in
    let wires = c.in_ok-joined.joined.wires.items in
    let actors = length c.args.parts.now.actors in
    let begun : c.in_ok-ways.ways.items ≡ map (way_of (length c.args.parts.now.actors) c.in_ok-joined.joined.feeders) c.in_ok-joined.joined.wires.items =
    c.in_ok-ways.ensures ∙ ap (λ (n : ℕ). map (way_of n feeders) c.as_slice-wires.result.now) c.len.ensures ∙ ap (λ (ws : List Wire). map (way_of actors feeders) ws) c.as_slice-wires.ensures.value in
    let joined : IsJoined c.args.parts.now c.in_ok-joined.joined.wires.items c.in_ok-joined.joined.feeders = record { apart = places_apart parts c.requires.distinct; wires_are = c.in_ok-joined.ensures.wires; indexed = c.in_ok-joined.ensures.feeders } in
    let ends : AreEnded (map (way_of (length c.args.parts.now.actors) c.in_ok-joined.joined.feeders) c.in_ok-joined.joined.wires.items) c.follow_all-ends.result.items = subst (λ (ws : List Way). AreEnded ws c.follow_all-ends.result.items) begun c.follow_all-ends.ensures in
    let known : AreSupplied c.args.parts.now (supplied c.in_ok-joined.joined.feeders c.as_slice.result.now) = subst (λ (ws : List Way). AreSupplied parts (supplied feeders ws)) (sym c.as_slice.ensures.value) (are_supplied parts wires feeders c.follow_all-ends.result.items joined ends) in
    known

pub returns-clause-judged : goal.returns-clause-judged
returns-clause-judged c = judges_behind c.args.parts.now (feed_checks _ c.args.parts.now.feeds) (fed_checks c.args.parts.now.actors) c.connections_of.result c.in_ok-joined.ensures.judged c.connections_of.ensures.judged

pub returns-clause-connections : goal.returns-clause-connections
returns-clause-connections c =
    let parts = c.args.parts.now in
    let feeders = c.in_ok-joined.joined.feeders in
    let wires = c.in_ok-joined.joined.wires.items in
    let actors = length c.args.parts.now.actors in
    let begun : c.in_ok-ways.ways.items ≡ map (way_of (length c.args.parts.now.actors) c.in_ok-joined.joined.feeders) c.in_ok-joined.joined.wires.items =
    c.in_ok-ways.ensures ∙ ap (λ (n : ℕ). map (way_of n feeders) c.as_slice-wires.result.now) c.len.ensures ∙ ap (λ (ws : List Wire). map (way_of actors feeders) ws) c.as_slice-wires.ensures.value in
    let joined : IsJoined c.args.parts.now c.in_ok-joined.joined.wires.items c.in_ok-joined.joined.feeders = record { apart = places_apart parts c.requires.distinct; wires_are = c.in_ok-joined.ensures.wires; indexed = c.in_ok-joined.ensures.feeders } in
    let ends : AreEnded (map (way_of (length c.args.parts.now.actors) c.in_ok-joined.joined.feeders) c.in_ok-joined.joined.wires.items) c.follow_all-ends.result.items = subst (λ (ws : List Way). AreEnded ws c.follow_all-ends.result.items) begun c.follow_all-ends.ensures in
    let known : AreSupplied c.args.parts.now (supplied c.in_ok-joined.joined.feeders c.as_slice.result.now) = subst (λ (ws : List Way). AreSupplied parts (supplied feeders ws)) (sym c.as_slice.ensures.value) (are_supplied parts wires feeders c.follow_all-ends.result.items joined ends) in
    IfOk-weaker c.connections_of.result (λ (v : Vec Connection). v.items ≡ links_from (supplied c.in_ok-joined.joined.feeders c.as_slice.result.now) 0 (actor_places c.args.parts.now)) (λ (v : Vec Connection). (j : Connection) → Among v.items j ↔ Connects c.args.parts.now j)
    (λ v e j. subst (λ (js : List Connection). Among js j ↔ Connects parts j) (sym e) (links_connect parts (supplied feeders c.as_slice.result.now) j known)) c.connections_of.ensures.links

pub returns-clause-rising : goal.returns-clause-rising
returns-clause-rising c =
    IfOk-weaker c.connections_of.result (λ (v : Vec Connection). v.items ≡ links_from (supplied c.in_ok-joined.joined.feeders c.as_slice.result.now) 0 (actor_places c.args.parts.now)) (λ (v : Vec Connection). Rising v.items)
    (λ v e. subst Rising (sym e) (links_rising c.args.parts.now (supplied c.in_ok-joined.joined.feeders c.as_slice.result.now))) c.connections_of.ensures.links

pub returns-clause-few : goal.returns-clause-few
returns-clause-few c =
    IfOk-weaker c.connections_of.result (λ (v : Vec Connection). v.items ≡ links_from (supplied c.in_ok-joined.joined.feeders c.as_slice.result.now) 0 (actor_places c.args.parts.now)) (λ (v : Vec Connection). length v.items ≤ 4096)
    (λ v e. subst (λ (js : List Connection). length js ≤ 4096) (sym e) (few_links c.args.parts.now (supplied c.in_ok-joined.joined.feeders c.as_slice.result.now) c.requires)) c.connections_of.ensures.links
