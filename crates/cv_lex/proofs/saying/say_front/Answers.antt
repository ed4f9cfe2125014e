use Rattle.std.proofs.Common.{◌≡◌, ℕ, ◌+◌, ◌-◌, ◌<◌, ◌≤◌, List, ◌++◌, length, get_or, take, drop, subst, sym, ap, ◌∙◌, string_bytes, arith}
use Rattle.std.specs.Prelude.{encode_utf8}
use Rattle.std.specs.Str.{IsCharBoundary}
use Rattle.std.specs.List.{prefix_len}
use Rattle.std.proofs.lemmas.Grind.{common_steps}
use Rattle.cv_lex.specs.Bytes.{is_plain}
use Rattle.cv_lex.specs.Texts.{escape_of, said_from, good_of, with_bytes}
use Rattle.cv_lex.proofs.Sayings.{run_boundary, no_run, escape_boundary, good_of-run, good_of-step, said_from-escape}
use Rattle.cv_lex.proofs.saying.say_front.Goals as goal

-- the run ends at a `\` or at the end
pub range-requires-clause-end_boundary : goal.range-requires-clause-end_boundary
range-requires-clause-end_boundary c =
    subst (IsCharBoundary c.args.rest.now) (sym (c.plain_bytes-plain.ensures.value ∙ ap (prefix_len is_plain) c.as_bytes-bytes.ensures.value)) (run_boundary c.args.rest.now)

-- a run of plain bytes was said
pub returns-then-plain-gt0 : goal.returns-then-plain-gt0
returns-then-plain-gt0 c =
    let old = string_bytes c.args.text.now in
    let rest = c.args.rest.now in
    let n = c.plain_bytes-plain.result in
    let count : n ≡ prefix_len is_plain rest = c.plain_bytes-plain.ensures.value ∙ ap (prefix_len is_plain) c.as_bytes-bytes.ensures.value in
    let run : c.range.result.now ≡ take n rest = grind (arith, common_steps) in (
      c.if-plain-gt0.true,
      subst (IsCharBoundary rest) (sym count) (run_boundary rest),
      good_of-run old rest n count
          ∙ ap (λ (text : List ℕ). good_of (with_bytes text (said_from 0 0 (drop n rest)))) (sym (c.in_ok-push_str.ensures.bytes ∙ ap (λ (more : List ℕ). old ++ more) run)),
    )

-- an escape was said
pub returns-in_ok-push-in-Some : goal.returns-in_ok-push-in-Some
returns-in_ok-push-in-Some c =
    let old = string_bytes c.args.text.now in
    let rest = c.args.rest.now in
    let escape = c.in-Some.escape in
    let n = escape.len in
    let count : c.plain_bytes-plain.result ≡ prefix_len is_plain rest = c.plain_bytes-plain.ensures.value ∙ ap (prefix_len is_plain) c.as_bytes-bytes.ensures.value in
    let first = no_run rest c.requires (omega (arith, count)) in
    let behind : c.split_at.result.1.now ≡ drop 1 rest = c.split_at.ensures.back ∙ ap (drop 1) c.as_bytes-bytes.ensures.value in
    let P : List ℕ → Type 0 = λ bytes. n ≤ length bytes in
    let Q : List ℕ → Type 0 = λ bytes. get_or bytes (n - 1) 0 < 128 in
    let within : n ≤ length (drop 1 rest) = subst P behind c.in-Some.ensures.within.1 in
    let ascii : get_or (drop 1 rest) (n - 1) 0 < 128 = subst Q behind c.in-Some.ensures.ascii in (
      omega arith,
      escape_boundary rest n c.utf8.rest c.in-Some.ensures.within.0 within ascii,
      good_of-step old (encode_utf8 escape.code) rest (drop (n + 1) rest) (0 + (n + 1))
          (said_from-escape 0 rest escape first (c.in-Some.ensures.value ∙ ap escape_of behind))
          ∙ ap (λ (text : List ℕ). good_of (with_bytes text (said_from 0 0 (drop (n + 1) rest)))) (sym c.in_ok-push-in-Some.ensures.bytes),
    )
