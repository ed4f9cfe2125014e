use Rattle.std.proofs.Common.{◌≡◌, true, length, refl, ap, ◌∙◌, sym, subst}
use Rattle.cv_token.specs.declared.token.Token.{Token}
use Rattle.cv_kinds.specs.declared.network.ActorSpec.{ActorSpec}
use Rattle.cv_kinds.specs.Sorts.{is_state}
use Rattle.cv_protocol.specs.Actors.{IsShaped}
use Rattle.cv_frame.specs.laws.Arguments.{one_spec}
use Rattle.cv_frame.specs.laws.Shapes.{part, stands, whole}
use Rattle.cv_frame.proofs.Wholes.{state_made}
use Rattle.cv_frame.proofs.states.state_of.Goals as goal

pub returns-then-not-is_word : goal.returns-then-not-is_word
returns-then-not-is_word c = λ v k e. let no = c.if-not-is_word.ensures.1 (part _ _ _ 0 _ c.in-Some.ensures.1 c.index-parts-0.is e) in cc

pub returns-then-not-is_null : goal.returns-then-not-is_null
returns-then-not-is_null c = λ v k e. let no = c.if-not-is_null.ensures.1 (part _ _ _ 6 _ c.in-Some.ensures.1 c.index-parts-6.is e) in cc

pub returns-in_default-2 : goal.returns-in_default-2
returns-in_default-2 c = λ v k e.
    let p = part _ _ _ 1 _ c.in-Some.ensures.1 c.index-parts-1.is e in
    let q = part _ _ _ 2 _ c.in-Some.ensures.1 c.index-parts-2.is e in
    let r = part _ _ _ 3 _ c.in-Some.ensures.1 c.index-parts-3.is e in
    (rw c.in_default-2.is at c.in_ok-spec.ensures) v.actor.spec k.0.spec (λ i. (p i, (q i, r i)))

pub returns-in_default-3 : goal.returns-in_default-3
returns-in_default-3 c = λ v k e.
    let s = rw c.in-Some-2.is at c.in_ok-spec.ensures in
    let p = part _ _ _ 1 _ c.in-Some.ensures.1 c.index-parts-1.is e in
    let q = part _ _ _ 2 _ c.in-Some.ensures.1 c.index-parts-2.is e in
    let r = part _ _ _ 3 _ c.in-Some.ensures.1 c.index-parts-3.is e in
    let same = one_spec c.in-Some-2.spec v.actor.spec (sym s.1 ∙ (λ i. (p i, (q i, r i)))) in
    (rw c.in_default-3.is at c.in_ok-slots.ensures) v.actor.slots (subst (λ (x : ActorSpec). is_state x.kind x.args v.actor.slots ≡ true) (sym same) k.0.slots) (part _ _ _ 4 _ c.in-Some.ensures.1 c.index-parts-4.is e)

pub returns-in_default-wait_of : goal.returns-in_default-wait_of
returns-in_default-wait_of c = λ v k e. c.in_default-wait_of.ensures v.wait k.0.wait (part _ _ _ 5 _ c.in-Some.ensures.1 c.index-parts-5.is e)

pub returns-in_default-4 : goal.returns-in_default-4
returns-in_default-4 c = λ v k e.
    let s = rw c.in-Some-2.is at c.in_ok-spec.ensures in
    let p = part _ _ _ 1 _ c.in-Some.ensures.1 c.index-parts-1.is e in
    let q = part _ _ _ 2 _ c.in-Some.ensures.1 c.index-parts-2.is e in
    let r = part _ _ _ 3 _ c.in-Some.ensures.1 c.index-parts-3.is e in
    let same = one_spec c.in-Some-2.spec v.actor.spec (sym s.1 ∙ (λ i. (p i, (q i, r i)))) in
    (rw c.in_default-4.is at c.in_ok-ins.ensures) v.actor.ins v.actor.outs k.0.ins k.0.outs (subst (λ (x : ActorSpec). IsShaped x.kind (length v.actor.ins) (length v.actor.outs)) (sym same) k.0.shaped)
    (part _ _ _ 7 _ c.in-Some.ensures.1 c.index-parts-7.is e) (part _ _ _ 8 _ c.in-Some.ensures.1 c.index-parts-8.is e)

pub returns-in_default-5 : goal.returns-in_default-5
returns-in_default-5 c = λ v k e. (rw c.in_default-5.is at c.in_ok-hints.ensures) v.hints k.0.hints (part _ _ _ 9 _ c.in-Some.ensures.1 c.index-parts-9.is e)

pub returns : goal.returns
returns c =
    let s = rw c.in-Some-2.is at c.in_ok-spec.ensures in
    let l = rw c.in-Some-3.is at c.in_ok-slots.ensures in
    let p = rw c.in-Some-4.is at c.in_ok-ins.ensures in
    let h = rw c.in-Some-5.is at c.in_ok-hints.ensures in
    state_made c.args.token.now c.from_parts.result _ c.in-Some-wait_of.wait c.in-Some-5.hints c.from_parts.ensures.actor c.from_parts.ensures.wait c.from_parts.ensures.hints
    s.0 l.0 c.in-Some-wait_of.ensures.0 p.0 p.1 p.2 h.0
    (whole _ _ _ c.in-Some.ensures (
      stands c.in-Some.parts.now 0 _ _ (c.if-not-is_word.ensures.0 refl) c.index-parts-0.is,
      (
        stands c.in-Some.parts.now 1 _ _ (ap (λ (x : Token × (Token × Token)). x.0) s.1) c.index-parts-1.is,
        (
          stands c.in-Some.parts.now 2 _ _ (ap (λ (x : Token × (Token × Token)). x.1.0) s.1) c.index-parts-2.is,
          (
            stands c.in-Some.parts.now 3 _ _ (ap (λ (x : Token × (Token × Token)). x.1.1) s.1) c.index-parts-3.is,
            (
              stands c.in-Some.parts.now 4 _ _ l.1 c.index-parts-4.is,
              (
                stands c.in-Some.parts.now 5 _ _ c.in-Some-wait_of.ensures.1 c.index-parts-5.is,
                (
                  stands c.in-Some.parts.now 6 _ _ (c.if-not-is_null.ensures.0 refl) c.index-parts-6.is,
                  (
                    stands c.in-Some.parts.now 7 _ _ p.3 c.index-parts-7.is,
                    (
                      stands c.in-Some.parts.now 8 _ _ p.4 c.index-parts-8.is,
                      (stands c.in-Some.parts.now 9 _ _ h.1 c.index-parts-9.is, tt),
                    ),
                  ),
                ),
              ),
            ),
          ),
        ),
      ),
    ))
