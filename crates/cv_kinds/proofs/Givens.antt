-- What is given last, and numbers above all durations.
use Rattle.std.proofs.Common.{◌≡◌, ◌<◌, ℕ, suc, ◌+◌, ◌-◌, ◌*◌, min, Bool, true, false, if◌then◌else◌, List, [], ◌∷◌, Option, Some, None, option_map, refl, sym, ap, ◌∙◌, arith, length, drop, get_or}
use Rattle.std.proofs.Math.Seq.{drop-cons}
use Rattle.std.specs.Option.{option_or}
use Rattle.std.specs.Str.{bytes_eq}
use Rattle.cv_kinds.specs.declared.arguments.Argument.{Argument}
use Rattle.cv_kinds.specs.declared.arguments.Given.{Given}
use Rattle.cv_kinds.specs.Arguments.{is_digit, last_given, read_digits}

later : (x : Option Given) (b : Bool) (v : Given) (last : Option Given) → option_or (option_or x (if b then Some v else None)) last ≡ option_or x (if b then Some v else last)
later None true v last = refl
later None false v last = refl
later (Some y) b v last = refl

-- one argument more
pub last_next : (name : List ℕ) (a : Argument) (rest : List Argument) (last : Option Given) → option_or (last_given name (a ∷ rest)) last ≡ option_or (last_given name rest) (if bytes_eq a.name name then Some a.value else last)
last_next name a rest last = later (last_given name rest) (bytes_eq a.name name) a.value last

least : (top n k : ℕ) → min (n * 10 + k) top ≡ min (min n top * 10 + k) top
least top n k = omega arith

step : (b : Bool) (top : ℕ) (x y : ℕ) (ds : List ℕ) → ((n : ℕ) → option_map (λ k. min k top) (read_digits n ds) ≡ option_map (λ k. min k top) (read_digits (min n top) ds)) → min x top ≡ min y top → option_map (λ k. min k top) (if b then read_digits x ds else None) ≡ option_map (λ k. min k top) (if b then read_digits y ds else None)
step true top x y ds below same = below x ∙ ap (λ (n : ℕ). option_map (λ k. min k top) (read_digits n ds)) same ∙ sym (below y)
step false top x y ds below same = refl

-- a number above the top counts as the top, whatever digits follow
pub read_capped : (top n : ℕ) (ds : List ℕ) → option_map (λ k. min k top) (read_digits n ds) ≡ option_map (λ k. min k top) (read_digits (min n top) ds)
read_capped top n [] = let same : min n top ≡ min (min n top) top = omega arith in ap (λ (x : ℕ). Some x) same
read_capped top n (d ∷ ds) = step (is_digit d) top (n * 10 + (d - 48)) (min n top * 10 + (d - 48)) ds (λ k. read_capped top k ds) (least top n (d - 48))

-- one digit more
pub next_digit : (top n next i : ℕ) (ds : List ℕ) (whole : Option ℕ) → i < length ds → is_digit (get_or ds i 0) ≡ true → next ≡ min (n * 10 + (get_or ds i 0 - 48)) top → option_map (λ k. min k top) (read_digits n (drop i ds)) ≡ whole → option_map (λ k. min k top) (read_digits next (drop (i + 1) ds)) ≡ whole
next_digit top n next i ds whole within digit is before =
    let d : ℕ = get_or ds i 0 in
    let after : suc i ≡ i + 1 = omega arith in
    let rest : List ℕ = drop (i + 1) ds in
    let cons : drop i ds ≡ d ∷ rest = drop-cons ds i 0 within ∙ ap (λ (k : ℕ). d ∷ drop k ds) after in
    ap (λ (k : ℕ). option_map (λ x. min x top) (read_digits k rest)) is
    ∙ sym (read_capped top (n * 10 + (d - 48)) rest)
    ∙ ap (λ (b : Bool). option_map (λ x. min x top) (if b then read_digits (n * 10 + (d - 48)) rest else None)) (sym digit)
    ∙ ap (λ (xs : List ℕ). option_map (λ x. min x top) (read_digits n xs)) (sym cons)
    ∙ before
