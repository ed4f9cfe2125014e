use Rattle.std.proofs.Common.{◌≡◌, [], subst}
use Rattle.std.specs.Prelude.{IfNone}
use Rattle.cv_feed.specs.Streams.{HasNone}
use Rattle.cv_http.specs.Requests.{SpellsRequest}
use Rattle.cv_http.proofs.feed.Feed.take.Goals as goal

pub returns-clause-none : goal.returns-clause-none
returns-clause-none c =
    subst (λ s. IfNone c.take.result ((s.waiting ≡ []) × HasNone SpellsRequest s.rest)) c.self.view_is c.take.ensures.none
