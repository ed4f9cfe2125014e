-- The tree of a network is one that JSON can hold.
use Rattle.std.proofs.Common.{◌≡◌, ℕ, zero, suc, ◌≤◌, true, List, [], ◌∷◌, map, length, slice_get, Option, Some, None, codes, refl, ◌∙◌, arith, rules}
use Rattle.std.proofs.lemmas.Bool.{and_parts}
use Rattle.std.proofs.lemmas.Option.{slice_get_within}
use Rattle.cv_token.specs.declared.pairs.Pair.{Pair}
use Rattle.cv_token.specs.declared.token.Token.{Token, the_lemmas}
use Rattle.cv_token.specs.declared.token.Token.TheVariants as tree
use Rattle.cv_token.specs.Forms.{on_values}
use Rattle.cv_token.specs.Shape.{depth, greatest_value}
use Rattle.cv_token.specs.Spells.{IsTree}
use Rattle.cv_token.proofs.Levels.{is_token-Dict}
use Rattle.cv_kinds.specs.declared.network.ActorSpec.{ActorSpec}
use Rattle.cv_kinds.specs.declared.network.Connection.{Connection}
use Rattle.cv_kinds.specs.Net.{Net}
use Rattle.cv_kinds.specs.Table.{line_of}
use Rattle.cv_kinds.specs.WellFormed.{IsSpec, IsWellFormed}
use Rattle.cv_kinds.specs.Wired.{HasInport, HasOutport, HasPorts}
use Rattle.cv_kinds.proofs.Trees.{Within, a_list, a_null, a_text, all_low, an_int, args_within, each_of, low_text, name_text, ports_low}
use Rattle.cv_kinds.proofs.Wires.{all_have_ports}
use Rattle.cv_network.specs.Written.{actor_token, connection_token, inport_of, network_token, outport_of, port_token}

an_actor : (a : ActorSpec) → IsSpec a → Within 18 (actor_token a)
an_actor a is = a_list 17 _ (a_text 17 a.path is.path, (a_text 17 (line_of a.kind).name (name_text a.kind), (a_list 16 a.args (args_within (line_of a.kind).params a.args is.args), (a_null 17, tt))))

a_port : (names : List (List ℕ)) (port : ℕ) → all_low names ≡ true → Within 17 (port_token names port)
a_port [] zero e = a_null 17
a_port [] (suc n) e = a_null 17
a_port (m ∷ ms) zero e = a_text 17 m (low_text m (and_parts _ _ e).0)
a_port (m ∷ ms) (suc n) e = a_port ms n (and_parts _ _ e).1

an_outport : (port : ℕ) (o : Option ActorSpec) → Within 17 (outport_of port o)
an_outport port None = a_null 17
an_outport port (Some a) = a_port (line_of a.kind).outports port (and_parts _ _ (ports_low a.kind)).1

an_inport : (port : ℕ) (o : Option ActorSpec) → Within 17 (inport_of port o)
an_inport port None = a_null 17
an_inport port (Some a) = a_port (line_of a.kind).inports port (and_parts _ _ (ports_low a.kind)).0

producer_there : (o : Option ActorSpec) (port : ℕ) → HasOutport o port → (a : ActorSpec) × (o ≡ Some a)
producer_there None port h = absurd h
producer_there (Some a) port h = (a, refl)

consumer_there : (o : Option ActorSpec) (port : ℕ) → HasInport o port → (a : ActorSpec) × (o ≡ Some a)
consumer_there None port h = absurd h
consumer_there (Some a) port h = (a, refl)

a_connection : (actors : List ActorSpec) → length actors ≤ 256 → (j : Connection) → HasPorts actors j → Within 18 (connection_token actors j)
a_connection actors few j is =
    let p = producer_there (slice_get actors j.from) j.out is.producer in
    let q = consumer_there (slice_get actors j.to) j.inp is.consumer in
    let from = slice_get_within actors j.from p.0 p.1 in
    let to = slice_get_within actors j.to q.0 q.1 in
    a_list 17 _ (an_int 17 j.from (omega (arith, from, few)), (an_outport j.out (slice_get actors j.from), (an_int 17 j.to (omega (arith, to, few)), (an_inport j.inp (slice_get actors j.to), tt))))

dict-depth : (ps : List (Pair Token)) → depth (tree.Dict ps) ≡ suc (greatest_value (on_values depth ps))
dict-depth ps = search (rules, the_lemmas)

-- it nests twenty deep at most
pub a_network : (net : Net) → IsWellFormed net → Within 20 (network_token net)
a_network net whole =
    let actors = a_list 18 _ (each_of IsSpec actor_token 18 an_actor net.actors whole.specs) in
    let connections = a_list 18 _ (each_of (HasPorts net.actors) (connection_token net.actors) 18 (a_connection net.actors whole.small.few_actors) net.connections (all_have_ports net.actors net.connections whole.wired)) in
    let first : Token = tree.List (map actor_token net.actors) in
    let second : Token = tree.List (map (connection_token net.actors) net.connections) in
    let ps : List (Pair Token) = record { key = codes "actors"; value = first } ∷ record { key = codes "connections"; value = second } ∷ [] in
    record {
      token = is_token-Dict ps ∙ rw (actors.token, connections.token, low_text (codes "actors") refl, low_text (codes "connections") refl) refl;
      shallow = omega (arith, dict-depth ps, actors.shallow, connections.shallow);
    }

pub network_held : (net : Net) → IsWellFormed net → IsTree (network_token net)
network_held net whole = let h = a_network net whole in record { token = h.token; shallow = omega (arith, h.shallow) }
