-- Each status that is answered has a phrase.
use Rattle.std.proofs.Common.{◌≡◌, ℕ, Bool, true, false, eqb, ◌||◌, refl, subst}
use Rattle.std.specs.Prelude.{Option, None, Some, IsSome, is_some, option_map}
use Rattle.std.proofs.lemmas.Bool.{eqb-true}
use Rattle.http.specs.StatusCode.{reason_phrase}
use Rattle.cv_http.specs.Responses.{is_answered}

-- what holds of each of them
by_status : (P : ℕ → Type 0) → P 200 → P 400 → P 404 → P 405 → P 409 → P 413 → P 503
    → (s : ℕ) → is_answered s ≡ true → P s
by_status P a b c d e f g s is =
    either 200 a _ (either 400 b _ (either 404 c _ (either 405 d _ (either 409 e _ (either 413 f _ (either 503 g _ (λ no. cc))))))) is
  where
    either : (n : ℕ) → P n → (others : Bool) → (others ≡ true → P s) → (eqb n s || others) ≡ true → P s
    either n here others later is = by_test (eqb n s) refl is
      where
        by_test : (t : Bool) → eqb n s ≡ t → (t || others) ≡ true → P s
        by_test true same is = subst P (eqb-true n s same) here
        by_test false other is = later is

pub has_phrase : (s : ℕ) → is_answered s ≡ true → is_some (reason_phrase s) ≡ true
has_phrase = by_status (λ s. is_some (reason_phrase s) ≡ true) refl refl refl refl refl refl refl

pub some_map : {A B : Type 0} (f : A → B) (o : Option A) → is_some (option_map f o) ≡ true → IsSome o
some_map f None some = some
some_map f (Some a) some = refl
