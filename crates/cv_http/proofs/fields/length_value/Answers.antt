use Rattle.std.proofs.Common.{length, refl, sym, ap, ◌∙◌, subst, arith}
use Rattle.std.specs.Prelude.{codes, option_map, option_to_list, IfSome}
use Rattle.httparse.specs.Spans.{IsWithin, header_bytes, span_bytes}
use Rattle.http1.specs.Text.{eq_ignore_case}
use Rattle.cv_http.proofs.FieldLemmas.{two_values, some_value, first_value, other_value, no_header}
use Rattle.cv_http.proofs.fields.length_value.Goals as goal
use Rattle.cv_http.proofs.fields.length_value.Goals.{then-eq_ignore_case+else-is_some, else-eq_ignore_case}

pub returns-then-is_some-clause-value : goal.returns-then-is_some-clause-value
returns-then-is_some-clause-value c =
    let f = header_bytes c.args.window.now in
    let named = ap (λ t. eq_ignore_case t (codes "content-length")) (sym c.of.ensures) ∙ sym c.eq_ignore_case.ensures ∙ c.if-eq_ignore_case.true in
    let some = some_value (span_bytes c.args.window.now) c.loop-field.value (sym c.is_some.ensures ∙ c.if-is_some.true) in (
      refl,
      two_values (codes "content-length") f c.args.fields.now c.loop-field.field-index no_header c.loop-field-test.true
          (omega (arith, some, ap length c.loop-field.invariant.0)) named,
    )

pub loop-field-preserved : goal.loop-field-preserved
loop-field-preserved c =
    let name = codes "content-length" in
    let buf = c.args.window.now in
    let at = c.loop-field.field-index in
    let within = c.requires at no_header c.loop-field-test.true in
    let test = ap (λ t. eq_ignore_case t name) (sym c.of.ensures) ∙ sym c.eq_ignore_case.ensures in
    elim c.if-eq_ignore_case.branch [
      | then-eq_ignore_case+else-is_some w ↦ (
        first_value name (header_bytes buf) (span_bytes buf) c.args.fields.now at no_header c.loop-field.value c.loop-field-test.true
            c.loop-field.invariant.0 (sym w.is_some.ensures ∙ w.if-is_some.false) (test ∙ w.if-eq_ignore_case.true)
            ∙ ap (λ v. option_to_list (option_map (span_bytes buf) v)) (sym w.value-is),
        subst (λ v. IfSome v (IsWithin (length buf))) (sym w.value-is) within.1,
      )
      | else-eq_ignore_case w ↦ (
        other_value name (header_bytes buf) c.args.fields.now at no_header c.loop-field-test.true (test ∙ w.if-eq_ignore_case.false)
            ∙ c.loop-field.invariant.0 ∙ ap (λ v. option_to_list (option_map (span_bytes buf) v)) (sym w.value-is),
        subst (λ v. IfSome v (IsWithin (length buf))) (sym w.value-is) c.loop-field.invariant.1,
      )
    ]
