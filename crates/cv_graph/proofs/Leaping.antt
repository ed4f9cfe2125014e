-- Ways that leap to their ends.
use Rattle.std.proofs.Common.{◌≡◌, ◌≢◌, ℕ, zero, suc, ◌+◌, ◌<◌, ◌≤◌, ◌↔◌, ◌⊎◌, inl, inr, Bool, true, false, not, ◌&&◌, ◌||◌, List, length, get_or, Option, Some, slice_get, refl, sym, ◌∙◌, ap, subst, arith, length-set, get_or-set_same, get_or-set_other}
use Rattle.std.proofs.Math.ListN.{set}
use Rattle.std.proofs.lemmas.Bool.{cases_lt, cases_eq}
use Rattle.std.proofs.lemmas.Option.{slice_get-get_or, slice_get_past, slice_get_within, get_or_from_slice_get}
use Rattle.std.proofs.lemmas.List.Sums.{sum_by-set}
use Rattle.std.specs.List.{sum_by}
use Rattle.std.specs.Prelude.{option_and_then}
use Rattle.cv_graph.specs.declared.ways.Supply.{Supply}
use Rattle.cv_graph.specs.declared.ways.Way.{Way}
use Rattle.cv_graph.specs.declared.ways.Way.TheVariants as way
use Rattle.cv_graph.specs.Ways.{AreWithin, EndsIn, here, there, LeadsBack, next, on, IsSo, IsOn, IsBack, is_back, still, further, leapt}

-- ---- an element that is written

pub at_same : {X : Type 0} (xs : List X) (i : ℕ) (x : X) → i < length xs → slice_get (set xs i x) i ≡ Some x
at_same xs i x h =
    let in_it : i < length (set xs i x) = omega (arith, length-set xs i x) in
    slice_get-get_or (set xs i x) i x in_it ∙ ap Some (get_or-set_same xs i x x h)

pub at_other : {X : Type 0} (xs : List X) (i j : ℕ) (x : X) → j ≢ i → slice_get (set xs i x) j ≡ slice_get xs j
at_other xs i j x apart = elim (cases_lt j (length xs)) [
  | inl h ↦
      let in_it : j < length (set xs i x) = omega (arith, length-set xs i x) in
      slice_get-get_or (set xs i x) j x in_it ∙ ap Some (get_or-set_other xs i j x x apart) ∙ sym (slice_get-get_or xs j x h)
  | inr h ↦
      let out_of_it : length (set xs i x) ≤ j = omega (arith, length-set xs i x) in
      slice_get_past (set xs i x) j out_of_it ∙ sym (slice_get_past xs j h)
]

some_same : {X : Type 0} (x y : X) → Some x ≡ Some y → x ≡ y
some_same x y e = cc

-- ---- steps back

both_ways : (o : List Way) (k j i : ℕ) → LeadsBack o k j → LeadsBack o j i → LeadsBack o k i
both_ways o k j _ h (next i e) = on i j e h
both_ways o k j _ h (on i m e l) = on i m e (both_ways o k j m h l)

ends_back : (o : List Way) (s : Option Supply) (j i : ℕ) → LeadsBack o j i → EndsIn o s j → EndsIn o s i
ends_back o s j _ (next i e) h = there i j e h
ends_back o s j _ (on i m e l) h = there i m e (ends_back o s j m l h)

so_back : (o : List Way) (i j : ℕ) (w : Way) → LeadsBack o j i → IsSo o j w → IsSo o i w
so_back o i j (way.Ended s) l h = ends_back o s j i l h
so_back o i j (way.Back k) l h = both_ways o k j i h l

-- ---- one leap

-- what is known of a join that has leapt
leapt_so : (o w : List Way) (i : ℕ) (a x : Way) → IsOn o w → slice_get w i ≡ Some a → further w i a ≡ Some x → IsSo o i x
leapt_so o w i (way.Ended s) x is at e = subst (IsSo o i) (some_same (way.Ended s) x e) (is.so i (way.Ended s) at)
leapt_so o w i (way.Back j) x is at e = so_back o i j x (is.so i (way.Back j) at) (is.so j x e)

leapt_within : (w : List Way) (i j : ℕ) (a x : Way) → AreWithin w → slice_get w i ≡ Some a → further w i a ≡ Some x → x ≡ way.Back j → j < length w
leapt_within w i j (way.Ended s) x within at e is = let clash : way.Ended s ≡ way.Back j = some_same _ _ e ∙ is in cc
leapt_within w i j (way.Back k) x within at e is = within k j (e ∙ ap Some is)

-- a way that has not ended before and after a leap leads to another such way
leapt_stuck : (w : List Way) (i j : ℕ) (a x : Way) → slice_get w i ≡ Some a → further w i a ≡ Some x → x ≡ way.Back j → (k : ℕ) × (a ≡ way.Back k) × (slice_get w k ≡ Some (way.Back j))
leapt_stuck w i j (way.Ended s) x at e is = let clash : way.Ended s ≡ way.Back j = some_same _ _ e ∙ is in cc
leapt_stuck w i j (way.Back k) x at e is = (k, refl, e ∙ ap Some is)

fewer_by : (a x : Way) → (is_back a && not (is_back x)) ≡ true → still x < still a
fewer_by (way.Ended s) x h = cc
fewer_by (way.Back j) (way.Ended s) h = omega arith
fewer_by (way.Back j) (way.Back k) h = cc

-- an ended way stays
no_more_by : (w : List Way) (i : ℕ) (a x : Way) → further w i a ≡ Some x → still x ≤ still a
no_more_by w i (way.Ended s) x e = subst (λ (y : Way). still y ≤ 0) (some_same (way.Ended s) x e) (omega arith)
no_more_by w i (way.Back j) (way.Ended s) e = omega arith
no_more_by w i (way.Back j) (way.Back k) e = omega arith

back_of : (a x : Way) (j : ℕ) → (is_back a && not (is_back x)) ≡ false → a ≡ way.Back j → (k : ℕ) × (x ≡ way.Back k)
back_of a (way.Back k) j h e = (k, refl)
back_of (way.Back k) (way.Ended s) j h e = cc
back_of (way.Ended t) (way.Ended s) j h e = cc

or_left : (a b : Bool) → (a || b) ≡ false → a ≡ false
or_left true b h = h
or_left false b h = refl

or_right : (a b : Bool) → (a || b) ≡ false → b ≡ false
or_right true b h = cc
or_right false b h = h

or_true : (a b : Bool) → (a || b) ≡ true → (a ≡ true) ⊎ (b ≡ true)
or_true true b h = inl refl
or_true false b h = inr h

-- what holds in the midst of a round
pub record Round (start now : List Way) (found : Bool) (at : ℕ) : Type 0 where
  pub same : length now ≡ length start
  pub within : AreWithin now
  pub on : (o : List Way) → IsOn o start → IsOn o now
  pub stuck : found ≡ false → (o : List Way) → IsOn o start → (k : ℕ) → k < at → IsBack now k → (j : ℕ) × LeadsBack o j k × IsBack now j
  pub fewer : found ≡ true → sum_by still now < sum_by still start
  pub no_more : sum_by still now ≤ sum_by still start

still_back : (now : List Way) (at m : ℕ) (a x : Way) → at < length now → slice_get now at ≡ Some a → (is_back a && not (is_back x)) ≡ false → IsBack now m → IsBack (set now at x) m
still_back now at m a x inside is quiet back = elim (cases_eq m at) [
  | inl same ↦
      let b = back_of a x back.0 quiet (some_same a (way.Back back.0) (sym is ∙ subst (λ (n : ℕ). slice_get now n ≡ Some (way.Back back.0)) same back.1)) in
      (b.0, subst (λ (n : ℕ). slice_get (set now at x) n ≡ Some (way.Back b.0)) (sym same) (at_same now at x inside ∙ ap Some b.1))
  | inr apart ↦ (back.0, at_other now at m x apart ∙ back.1)
]

on_next : (o now : List Way) (at : ℕ) (a x : Way) → at < length now → slice_get now at ≡ Some a → further now at a ≡ Some x → IsOn o now → IsOn o (set now at x)
on_next o now at a x inside is leap known = record {
  same = length-set now at x ∙ known.same;
  so = λ i w e. elim (cases_eq i at) [
    | inl same ↦
        let here_x : x ≡ w = some_same x w (sym (at_same now at x inside) ∙ subst (λ (n : ℕ). slice_get (set now at x) n ≡ Some w) same e) in
        subst (λ (n : ℕ). IsSo o n w) (sym same) (subst (IsSo o at) here_x (leapt_so o now at a x known is leap))
    | inr apart ↦ known.so i w (sym (at_other now at i x apart) ∙ e)
  ];
}

within_next : (now : List Way) (at : ℕ) (a x : Way) → at < length now → slice_get now at ≡ Some a → further now at a ≡ Some x → AreWithin now → AreWithin (set now at x)
within_next now at a x inside is leap within = λ i j e. subst (λ (n : ℕ). j < n) (sym (length-set now at x)) (elim (cases_eq i at) [
  | inl same ↦
      let here_x : x ≡ way.Back j = some_same x (way.Back j) (sym (at_same now at x inside) ∙ subst (λ (n : ℕ). slice_get (set now at x) n ≡ Some (way.Back j)) same e) in
      leapt_within now at j a x within is leap here_x
  | inr apart ↦ within i j (sym (at_other now at i x apart) ∙ e)
])

stuck_next : (o now : List Way) (at : ℕ) (a x : Way) → at < length now → slice_get now at ≡ Some a → further now at a ≡ Some x → (is_back a && not (is_back x)) ≡ false → IsOn o now
    → ((k : ℕ) → k < at → IsBack now k → (j : ℕ) × LeadsBack o j k × IsBack now j) → (k : ℕ) → k < at + 1 → IsBack (set now at x) k → (j : ℕ) × LeadsBack o j k × IsBack (set now at x) j
stuck_next o now at a x inside is leap quiet known before k below back = elim (cases_eq k at) [
  | inl same ↦
      let here_x : x ≡ way.Back back.0 = some_same x (way.Back back.0) (sym (at_same now at x inside) ∙ subst (λ (n : ℕ). slice_get (set now at x) n ≡ Some (way.Back back.0)) same back.1) in
      let s = leapt_stuck now at back.0 a x is leap here_x in
      (s.0, subst (λ (n : ℕ). LeadsBack o s.0 n) (sym same) (known.so at (way.Back s.0) (is ∙ ap Some s.1)), still_back now at s.0 a x inside is quiet (back.0, s.2))
  | inr apart ↦
      let b = before k (omega arith) (back.0, sym (at_other now at k x apart) ∙ back.1) in
      (b.0, b.1, still_back now at b.0 a x inside is quiet b.2)
]

one_more : (start now : List Way) (found : Bool) (at : ℕ) (a x : Way) → Round start now found at → at < length now → slice_get now at ≡ Some a → further now at a ≡ Some x
    → Round start (set now at x) (found || (is_back a && not (is_back x))) (at + 1)
one_more start now found at a x r inside is leap =
    let counted = sum_by-set still now at x a inside in
    let here_a : still (get_or now at a) ≡ still a = ap still (get_or_from_slice_get now at a a is) in
    let no_more_here = no_more_by now at a x leap in
    record {
      same = length-set now at x ∙ r.same;
      within = within_next now at a x inside is leap r.within;
      on = λ o h. on_next o now at a x inside is leap (r.on o h);
      stuck = λ quiet o h. stuck_next o now at a x inside is leap (or_right found _ quiet) (r.on o h) (r.stuck (or_left found _ quiet) o h);
      fewer = λ yes_. elim (or_true found _ yes_) [
        | inl before ↦ let f = r.fewer before in omega (arith, counted, here_a, no_more_here, f)
        | inr now_ ↦ let f = fewer_by a x now_ in let n = r.no_more in omega (arith, counted, here_a, f, n)
      ];
      no_more = let n = r.no_more in omega (arith, counted, here_a, no_more_here, n);
    }

found_or : (found b after_it : Bool) → ((b ≡ true) × (after_it ≡ true)) ⊎ ((b ≡ false) × (after_it ≡ found)) → (found || b) ≡ after_it
found_or true b after_it (inl h) = sym h.1
found_or false b after_it (inl h) = h.0 ∙ sym h.1
found_or true b after_it (inr h) = sym h.1
found_or false b after_it (inr h) = h.0 ∙ sym h.1

-- the same from what the code knows
pub next_leap : (start now : List Way) (found b after_it : Bool) (at : ℕ) (d x : Way) → Round start now found at → at < length now → Some x ≡ leapt now at → b ≡ (is_back (get_or now at d) && not (is_back x))
    → ((b ≡ true) × (after_it ≡ true)) ⊎ ((b ≡ false) × (after_it ≡ found)) → Round start (set now at x) after_it (at + 1)
next_leap start now found b after_it at d x r inside leap is cases =
    let read = slice_get-get_or now at d inside in
    let leaps : further now at (get_or now at d) ≡ Some x = sym (leap ∙ ap (option_and_then (further now at)) read) in
    subst (λ (f : Bool). Round start (set now at x) f (at + 1)) (ap (λ c. found || c) (sym is) ∙ found_or found b after_it cases) (one_more start now found at (get_or now at d) x r inside read leaps)

-- ---- at the end

-- so many steps lead to the end
data EndsAfter (o : List Way) (s : Option Supply) : ℕ → ℕ → Type 0 where
  at_once : (i : ℕ) → slice_get o i ≡ Some (way.Ended s) → EndsAfter o s 0 i
  after : (n i j : ℕ) → slice_get o i ≡ Some (way.Back j) → EndsAfter o s n j → EndsAfter o s (suc n) i

steps_of : (o : List Way) (s : Option Supply) (i : ℕ) → EndsIn o s i → (n : ℕ) × EndsAfter o s n i
steps_of o s _ (here i e) = (0, at_once i e)
steps_of o s _ (there i j e h) = let r = steps_of o s j h in (suc r.0, after r.0 i j e r.1)

one_less : (o : List Way) (s : Option Supply) (k n i : ℕ) → EndsAfter o s n i → slice_get o i ≡ Some (way.Back k) → (m : ℕ) × (n ≡ suc m) × EndsAfter o s m k
one_less o s k _ _ (at_once i e) back = let clash : Some (way.Ended s) ≡ Some (way.Back k) = sym e ∙ back in cc
one_less o s k _ _ (after m i j e h) back =
    let same : Some (way.Back j) ≡ Some (way.Back k) = sym e ∙ back in
    let number : j ≡ k = cc in
    (m, refl, subst (λ (x : ℕ). EndsAfter o s m x) number h)

later : (o : List Way) (s : Option Supply) (j n i : ℕ) → EndsAfter o s n i → LeadsBack o j i → (m : ℕ) × (m < n) × EndsAfter o s m j
later o s j n _ h (next i e) = let r = one_less o s j n i h e in let e : n ≡ suc r.0 = r.1 in (r.0, omega arith, r.2)
later o s j n _ h (on i k e l) =
    let r = one_less o s k n i h e in
    let q = later o s j r.0 k r.2 l in
    let e : n ≡ suc r.0 = r.1 in
    let less : q.0 < r.0 = q.1 in
    (q.0, omega arith, q.2)

ends_here : (o : List Way) (s t : Option Supply) (i : ℕ) → EndsIn o s i → slice_get o i ≡ Some (way.Ended t) → t ≡ s
ends_here o s t _ (here i e) at = let same : Some (way.Ended t) ≡ Some (way.Ended s) = sym at ∙ e in cc
ends_here o s t _ (there i j e h) at = let same : Some (way.Ended t) ≡ Some (way.Back j) = sym at ∙ e in cc

ends_there : (o : List Way) (s : Option Supply) (i k : ℕ) → EndsIn o s i → slice_get o i ≡ Some (way.Back k) → EndsIn o s k
ends_there o s _ k (here i e) at = let same : Some (way.Back k) ≡ Some (way.Ended s) = sym at ∙ e in cc
ends_there o s _ k (there i j e h) at =
    let same : Some (way.Back k) ≡ Some (way.Back j) = sym at ∙ e in
    let number : j ≡ k = cc in
    subst (EndsIn o s) number h

-- a way has one end
pub one_end : (o : List Way) (s t : Option Supply) (i : ℕ) → EndsIn o t i → EndsIn o s i → t ≡ s
one_end o s t _ (here i e) h = ends_here o s t i h e
one_end o s t _ (there i j e g) h = one_end o s t j g (ends_there o s i j h e)

-- where no more ends are found all are
pub record AllStuck (o w : List Way) : Type 0 where
  pub known : IsOn o w
  pub stuck : (i : ℕ) → IsBack w i → (j : ℕ) × LeadsBack o j i × IsBack w j

begins : (o : List Way) (s : Option Supply) (n i : ℕ) → EndsAfter o s n i → (a : Way) × (slice_get o i ≡ Some a)
begins o s _ _ (at_once i e) = (way.Ended s, e)
begins o s _ _ (after m i j e h) = (way.Back j, e)

ends_of : (o : List Way) (s : Option Supply) (n i : ℕ) → EndsAfter o s n i → EndsIn o s i
ends_of o s _ _ (at_once i e) = here i e
ends_of o s _ _ (after m i j e h) = there i j e (ends_of o s m j h)

by_value : (o w : List Way) (s : Option Supply) (n i : ℕ) (a : Way) → AllStuck o w → EndsAfter o s n i → slice_get w i ≡ Some a → ((m j : ℕ) → m < n → EndsAfter o s m j → slice_get w j ≡ Some (way.Ended s)) → slice_get w i ≡ Some (way.Ended s)
by_value o w s n i (way.Ended t) all h at shorter = at ∙ ap (λ (x : Option Supply). Some (way.Ended x)) (one_end o s t i (all.known.so i (way.Ended t) at) (ends_of o s n i h))
by_value o w s n i (way.Back k) all h at shorter =
    let b = all.stuck i (k, at) in
    let l = later o s b.0 n i h b.1 in
    let clash : Some (way.Ended s) ≡ Some (way.Back b.2.0) = sym (shorter l.0 b.0 l.1 l.2) ∙ b.2.1 in
    cc

within_bound : (o w : List Way) (s : Option Supply) (b n i : ℕ) → AllStuck o w → n < b → EndsAfter o s n i → slice_get w i ≡ Some (way.Ended s)
within_bound o w s zero n i all less h = absurd (omega arith)
within_bound o w s (suc b) n i all less h =
    let there_o = begins o s n i h in
    let inside : i < length o = slice_get_within o i there_o.0 there_o.1 in
    let same : length w ≡ length o = all.known.same in
    let inside_w : i < length w = omega arith in
    by_value o w s n i (get_or w i (way.Ended s)) all h (slice_get-get_or w i (way.Ended s) inside_w) (λ m j fewer g. within_bound o w s b m j all (omega arith) g)

pub all_ended : (o w : List Way) (i : ℕ) (s : Option Supply) → AllStuck o w → (slice_get w i ≡ Some (way.Ended s)) ↔ EndsIn o s i
all_ended o w i s all = (λ e. all.known.so i (way.Ended s) e, λ h. let r = steps_of o s i h in within_bound o w s (suc r.0) r.0 i all (omega arith) r.1)

so_itself : (o : List Way) (i : ℕ) (w : Way) → slice_get o i ≡ Some w → IsSo o i w
so_itself o i (way.Ended s) e = here i e
so_itself o i (way.Back j) e = next i e

pub on_itself : (o : List Way) → IsOn o o
on_itself o = record { same = refl; so = so_itself o }
