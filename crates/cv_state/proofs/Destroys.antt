-- The nodes that are told of an application that is destroyed.
use Rattle.std.proofs.Common.{◌≡◌, ℕ, length, sym, ◌∙◌}
use Rattle.std.proofs.lemmas.List.{length-map}
use Rattle.std.specs.FinMap as map
use Rattle.std.specs.FinMap.{entries, len-entries}
use Rattle.cv_rules.specs.declared.attrs.Attrs.{Attrs}
use Rattle.cv_protocol.specs.NodeState.{NodeState}

pub nodes_count : (s : NodeState) → length (map.keys s.known.nodes) ≡ map.len s.known.nodes
nodes_count s = length-map (entries s.known.nodes) (λ (e : ℕ × Attrs). e.0) ∙ sym (len-entries s.known.nodes)
