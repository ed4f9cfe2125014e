use Rattle.std.proofs.Common.{◌≡◌, ◌≤◌, List, length, map, sym, ap, ◌∙◌, subst}
use Rattle.std.specs.Global.{Vec}
use Rattle.std.specs.List.{All}
use Rattle.cv_kinds.specs.declared.network.ActorSpec.{ActorSpec}
use Rattle.cv_kinds.specs.declared.network.Connection.{Connection}
use Rattle.cv_kinds.specs.Wired.{HasPorts}
use Rattle.cv_kinds.proofs.Wires.{all_have_ports}
use Rattle.cv_network.specs.Written.{connection_token}
use Rattle.cv_network.proofs.Made.{known, made_is, one_list, unknown}
use Rattle.cv_network.proofs.reading.network_with.Goals as goal

pub returns-in_default-3 : goal.returns-in_default-3
returns-in_default-3 c = λ net whole a j.
    let actors = known (λ (v : Vec ActorSpec). v.items ≡ net.actors) c.in_ok-actors.field-0 c.in-Some.actors c.in-Some.is (c.in_ok-actors.ensures net.actors whole.specs (c.as_slice.ensures ∙ one_list _ _ (sym c.in-List-List.is-0 ∙ a))) in
    let slice = sym (c.as_slice-2.ensures.value ∙ actors) in
    let few = subst (λ (xs : List ActorSpec). length xs ≤ 256) slice whole.small.few_actors in
    let all = subst (λ (xs : List ActorSpec). All (HasPorts xs) net.connections) slice (all_have_ports net.actors net.connections whole.wired) in
    let trees = c.as_slice-3.ensures ∙ one_list _ _ (sym c.in-List-List.is-1 ∙ j) ∙ ap (λ (xs : List ActorSpec). map (connection_token xs) net.connections) slice in
    absurd (unknown (λ (v : Vec Connection). v.items ≡ net.connections) c.in_ok-connections.field-0 c.in_default-3.is (c.in_ok-connections.ensures net.connections few all trees))

pub returns : goal.returns
returns c = λ net whole a j.
    let actors = known (λ (v : Vec ActorSpec). v.items ≡ net.actors) c.in_ok-actors.field-0 c.in-Some.actors c.in-Some.is (c.in_ok-actors.ensures net.actors whole.specs (c.as_slice.ensures ∙ one_list _ _ (sym c.in-List-List.is-0 ∙ a))) in
    let slice = sym (c.as_slice-2.ensures.value ∙ actors) in
    let few = subst (λ (xs : List ActorSpec). length xs ≤ 256) slice whole.small.few_actors in
    let all = subst (λ (xs : List ActorSpec). All (HasPorts xs) net.connections) slice (all_have_ports net.actors net.connections whole.wired) in
    let trees = c.as_slice-3.ensures ∙ one_list _ _ (sym c.in-List-List.is-1 ∙ j) ∙ ap (λ (xs : List ActorSpec). map (connection_token xs) net.connections) slice in
    let connections = known (λ (v : Vec Connection). v.items ≡ net.connections) c.in_ok-connections.field-0 c.in-Some-2.connections c.in-Some-2.is (c.in_ok-connections.ensures net.connections few all trees) in
    made_is c.of.result net _ (λ i. record { actors = actors i; connections = connections i }) whole c.of.ensures.made c.of.ensures.exact
