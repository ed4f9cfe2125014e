use Rattle.std.proofs.Common.{subst}
use Rattle.std.proofs.lemmas.Str.{is_utf8-from_IsUtf8}
use Rattle.std.specs.Str.{IsUtf8}
use Rattle.cv_graph.proofs.actors.actor_of.Goals as goal

pub returns-clause-sound : goal.returns-clause-sound
returns-clause-sound c = record { path = is_utf8-from_IsUtf8 c.in_ok-path.path (subst IsUtf8 c.as_str-letters.ensures c.as_str-letters.utf8); args = c.in_ok-args.ensures.sorted }
