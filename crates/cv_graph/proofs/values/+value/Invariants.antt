use Rattle.std.proofs.Common.{◌≡◌, take, drop, map}
use Rattle.serde_json.specs.Data.{no_members}
use Rattle.serde_json.specs.View.{view, members_view}
use Rattle.cv_token.specs.Forms.{on_values}
use Rattle.cv_graph.specs.Values.{data_of, put_all}
use Rattle.cv_graph.proofs.values.+value.Given as goal

abbrev pub invariant-values_of-loop-literal : goal.invariant-values_of-loop-literal
invariant-values_of-loop-literal l = map view l.values.items ≡ map data_of (take l.literal-index l.literal-items)

-- what was put in and what is left are the whole
abbrev pub invariant-members_of-loop-pair : goal.invariant-members_of-loop-pair
invariant-members_of-loop-pair l =
    put_all (on_values data_of (drop l.pair-index l.pair-items)) (members_view l.members.entries) ≡ put_all (on_values data_of l.pair-items) no_members
