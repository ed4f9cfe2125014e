use Rattle.std.proofs.Common.{◌≡◌, false, true, ap, sym, subst, ◌∙◌}
use Rattle.std.specs.Fmt.{decimal}
use Rattle.std.specs.Str.{IsUtf8}
use Rattle.std.proofs.lemmas.Fmt.{IsAscii-decimal, parse-decimal}
use Rattle.std.proofs.lemmas.Slice.Eq.{bytes_eq-Decides}
use Rattle.std.proofs.lemmas.Str.{IsUtf8-from_ascii}
use Rattle.cv_frame.proofs.stamps.number_of.Goals as goal

pub returns-in_default : goal.returns-in_default
returns-in_default c = λ n fits e. c.in_default.ensures.cases.0 (subst IsUtf8 (sym e) (IsUtf8-from_ascii (decimal n) (IsAscii-decimal n fits)))

pub returns-in_default-parse : goal.returns-in_default-parse
returns-in_default-parse c = λ n fits e.
    let read = parse-decimal 64 n _ c.parse.result fits fits (c.in-Ok.ensures.cases.0 ∙ e) c.parse.ensures.value.0 in
    let other = c.in_default-parse.is in absurd (cc)

pub returns-else-eq : goal.returns-else-eq
returns-else-eq c = λ n fits e.
    let read = parse-decimal 64 n _ c.parse.result fits fits (c.in-Ok.ensures.cases.0 ∙ e) c.parse.ensures.value.0 in
    let this = c.in-Ok-parse.is in
    let number : c.in-Ok-parse.number ≡ n = cc in
    let same : c.as_bytes.result.now ≡ c.args.digits.now = c.as_bytes.ensures.value ∙ c.format.ensures.text ∙ ap decimal number ∙ sym e in
    absurd (let both : false ≡ true = c.if-eq.ensures ∙ (bytes_eq-Decides c.as_bytes.result.now c.args.digits.now).1 same in cc)
