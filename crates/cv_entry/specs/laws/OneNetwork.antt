-- Networks that are well formed have trees of their own.
use Rattle.std.proofs.Common.{◌≡◌, ℕ, pos, List, map, slice_get, Option, Some, None, refl, sym, ap, ◌∙◌, subst}
use Rattle.std.specs.List.{All}
use Rattle.cv_token.specs.declared.token.Token.TheVariants as tree
use Rattle.cv_kinds.specs.declared.network.ActorSpec.{ActorSpec}
use Rattle.cv_kinds.specs.declared.network.Connection.{Connection}
use Rattle.cv_kinds.specs.Net.{Net}
use Rattle.cv_kinds.specs.Table.{line_of}
use Rattle.cv_kinds.specs.WellFormed.{IsSpec, IsWellFormed}
use Rattle.cv_kinds.specs.Wired.{HasInport, HasOutport, HasPorts}
use Rattle.cv_kinds.proofs.Wires.{all_have_ports}
use Rattle.cv_network.specs.Written.{actor_token, connection_token, inport_of, network_token, outport_of, port_token}
use Rattle.cv_network.proofs.Ports.{inport_known, inport_text, outport_known, outport_text}
use Rattle.cv_frame.specs.laws.Arguments.{one_spec}
use Rattle.cv_frame.specs.laws.Members.{value_at}
use Rattle.cv_frame.specs.laws.Ones.{both_at, same_images}
use Rattle.cv_frame.specs.laws.Shapes.{same_list}

one_actor : (a b : ActorSpec) → IsSpec a → IsSpec b → actor_token a ≡ actor_token b → a ≡ b
one_actor a b j k e =
    let path = both_at _ _ 0 e in
    let kind = both_at _ _ 1 e in
    let args = both_at _ _ 2 e in
    one_spec a b (λ i. (path i, (kind i, args i)))

one_place : (n m : ℕ) → tree.Int (pos n) ≡ tree.Int (pos m) → n ≡ m
one_place n m e = cc

same_port : (n m : ℕ) → Some n ≡ Some m → n ≡ m
same_port n m e = cc

-- the ports of one actor are told by their names
one_outport : (o : Option ActorSpec) (n m : ℕ) → HasOutport o n → HasOutport o m → outport_of n o ≡ outport_of m o → n ≡ m
one_outport None n m j k e = absurd j
one_outport (Some a) n m j k e =
    let named = outport_text a.kind n (port_token (line_of a.kind).outports n) j refl in
    same_port n m (sym (outport_known a.kind n named.0 _ named.1 refl) ∙ outport_known a.kind m named.0 _ named.1 e)

one_inport : (o : Option ActorSpec) (n m : ℕ) → HasInport o n → HasInport o m → inport_of n o ≡ inport_of m o → n ≡ m
one_inport None n m j k e = absurd j
one_inport (Some a) n m j k e =
    let named = inport_text a.kind n (port_token (line_of a.kind).inports n) j refl in
    same_port n m (sym (inport_known a.kind n named.0 _ named.1 refl) ∙ inport_known a.kind m named.0 _ named.1 e)

one_connection : (actors : List ActorSpec) (a b : Connection) → HasPorts actors a → HasPorts actors b → connection_token actors a ≡ connection_token actors b → a ≡ b
one_connection actors a b j k e =
    let from : a.from ≡ b.from = one_place a.from b.from (both_at _ _ 0 e) in
    let to : a.to ≡ b.to = one_place a.to b.to (both_at _ _ 2 e) in
    let producer : HasOutport (slice_get actors a.from) b.out = subst (λ (p : ℕ). HasOutport (slice_get actors p) b.out) (sym from) k.producer in
    let consumer : HasInport (slice_get actors a.to) b.inp = subst (λ (p : ℕ). HasInport (slice_get actors p) b.inp) (sym to) k.consumer in
    let out : a.out ≡ b.out = one_outport (slice_get actors a.from) a.out b.out j.producer producer (both_at _ _ 1 e ∙ ap (λ (p : ℕ). outport_of b.out (slice_get actors p)) (sym from)) in
    let inp : a.inp ≡ b.inp = one_inport (slice_get actors a.to) a.inp b.inp j.consumer consumer (both_at _ _ 3 e ∙ ap (λ (p : ℕ). inport_of b.inp (slice_get actors p)) (sym to)) in
    λ i. record { from = from i; out = out i; to = to i; inp = inp i }

pub one_network : (n m : Net) → IsWellFormed n → IsWellFormed m → network_token n ≡ network_token m → n ≡ m
one_network n m j k e =
    let actors : n.actors ≡ m.actors = same_images IsSpec actor_token one_actor n.actors m.actors j.specs k.specs (same_list (tree.List (map actor_token n.actors)) _ _ refl (value_at (network_token n) _ _ 0 refl e)) in
    let second : tree.List (map (connection_token n.actors) n.connections) ≡ tree.List (map (connection_token m.actors) m.connections) = value_at (network_token n) _ _ 1 refl e in
    let connections : All (HasPorts n.actors) m.connections = subst (λ (xs : List ActorSpec). All (HasPorts xs) m.connections) (sym actors) (all_have_ports m.actors m.connections k.wired) in
    let connections : n.connections ≡ m.connections =
    same_images (HasPorts n.actors) (connection_token n.actors) (one_connection n.actors) n.connections m.connections (all_have_ports n.actors n.connections j.wired) connections
    (same_list (tree.List (map (connection_token n.actors) n.connections)) _ _ refl (second ∙ ap (λ (xs : List ActorSpec). tree.List (map (connection_token xs) m.connections)) (sym actors))) in
    λ i. record { actors = actors i; connections = connections i }
