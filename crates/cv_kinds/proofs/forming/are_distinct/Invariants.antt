use Rattle.std.proofs.Common.{◌≡◌, ℕ, List, take}
use Rattle.std.specs.BTreeSet.{contains_text}
use Rattle.std.specs.List.{IsDistinct}
use Rattle.std.specs.Str.{bytes_eq}
use Rattle.cv_kinds.specs.WellFormed.{path_list}
use Rattle.cv_kinds.proofs.Distinct.{has_path}
use Rattle.cv_kinds.proofs.forming.are_distinct.Given as goal

abbrev pub invariant-loop-actor : goal.invariant-loop-actor
invariant-loop-actor l = record {
  seen : (path : List ℕ) → contains_text l.seen path ≡ has_path (path_list (take l.actor-index l.actors)) path;
  distinct : IsDistinct bytes_eq (path_list (take l.actor-index l.actors));
}
