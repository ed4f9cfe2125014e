use Rattle.std.proofs.Common.{ap, ◌∙◌}
use Rattle.std.specs.Prelude.{is_some}
use Rattle.http.specs.StatusCode.{reason_phrase}
use Rattle.cv_http.proofs.ResponseLemmas.{has_phrase, some_map}
use Rattle.cv_http.proofs.response.phrase_of.Goals as goal

pub unwrap-requires-2 : goal.unwrap-requires-2
unwrap-requires-2 c =
    let known = rw c.unwrap.ensures at c.from_u16.ensures in
    some_map (λ s. s.now) c.canonical_reason.result
    (ap is_some c.canonical_reason.ensures.value ∙ ap (λ n. is_some (reason_phrase n)) known.1 ∙ has_phrase c.args.status c.requires)
