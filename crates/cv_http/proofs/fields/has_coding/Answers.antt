use Rattle.std.proofs.Common.{sym, ◌∙◌}
use Rattle.httparse.specs.Spans.{header_bytes}
use Rattle.cv_http.specs.Fields.{is_coding}
use Rattle.cv_http.proofs.FieldLemmas.{any_at_map, no_header}
use Rattle.cv_http.proofs.fields.has_coding.Goals as goal

pub returns-then-is_coding : goal.returns-then-is_coding
returns-then-is_coding c =
    sym (any_at_map is_coding (header_bytes c.args.window.now) c.args.fields.now c.loop-field.field-index no_header c.loop-field-test.true
    ((λ i. is_coding (sym c.of.ensures i, sym c.of-in-loop-field.ensures i)) ∙ sym c.is_coding.ensures ∙ c.if-is_coding.true))
