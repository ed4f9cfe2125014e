use Rattle.std.proofs.Common.{length, ap, ◌∙◌}
use Rattle.cv_actor.proofs.Starts.{length_inlets, length_outs}
use Rattle.cv_actor.proofs.live.Live.start.Goals as goal

pub invariant_of-result : goal.invariant_of-result
invariant_of-result c = record {
  inports = ap length c.in_ok-ins.ensures ∙ length_inlets c.args.id.app c.args.connections.now c.args.id.actor 0 c.inports.result ∙ c.inports.ensures;
  outports = ap length c.in_ok-outs.ensures ∙ length_outs c.args.id.app c.args.connections.now c.args.id.actor 0 c.outports.result ∙ c.outports.ensures;
}
