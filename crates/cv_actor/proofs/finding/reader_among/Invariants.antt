use Rattle.std.proofs.Common.{◌≡◌, drop}
use Rattle.std.specs.Option.{option_map}
use Rattle.cv_protocol.specs.Rows.{Spot, spot_of}
use Rattle.cv_actor.proofs.finding.reader_among.Given as goal

abbrev pub invariant-loop-port : goal.invariant-loop-port
invariant-loop-port l = option_map (λ (s : Spot). s.reader) (spot_of l.conn l.port-index (drop l.port-index l.outs)) ≡ option_map (λ (s : Spot). s.reader) (spot_of l.conn 0 l.outs)
