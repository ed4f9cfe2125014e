use Rattle.std.proofs.Common.{◌≡◌, [], Option, Some, None, subst}
use Rattle.std.specs.Prelude.{IfNone}
use Rattle.cv_feed.specs.Streams.{HasNone}
use Rattle.cv_protocol.specs.declared.frame.Frame.{Frame}
use Rattle.cv_frame.specs.State.{State}
use Rattle.cv_frame.specs.Wire.{IsFramed, IsReadable}
use Rattle.cv_frame.proofs.Readable.{none_framed}
use Rattle.cv_frame.proofs.feed.Feed.take.Goals as goal

framed : (o : Option Frame) (s : State) → IfNone o ((s.waiting ≡ []) × HasNone IsReadable s.rest) → IfNone o ((s.waiting ≡ []) × HasNone IsFramed s.rest)
framed None s h = (h.0, none_framed s.rest h.1)
framed (Some f) s h = h

pub returns-clause-none : goal.returns-clause-none
returns-clause-none c = framed c.take.result c.args.self.now (subst (λ (s : State). IfNone c.take.result ((s.waiting ≡ []) × HasNone IsReadable s.rest)) c.self.view_is c.take.ensures.none)
