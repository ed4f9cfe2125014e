-- What a loop over the pieces of a text keeps true.
use Rattle.std.proofs.Common.{◌≡◌, ℕ, ◌+◌, ◌-◌, ◌≤◌, List, ◌++◌, length, take, drop, sym, subst, ap, ◌∙◌, arith, length-append}
use Rattle.std.proofs.Math.Seq.{take-add}
use Rattle.std.proofs.lemmas.List.{length-take-le, length-drop, take_rest}
use Rattle.std.proofs.KnownBytes.{Appends-trans, Consumes-trans}
use Rattle.std.specs.declared.option.Option.{Option}
use Rattle.std.specs.Io.KnownBytes.{Appends, Consumes}

-- so far the source gave these bytes, within the limit
pub record HasRead (limit : ℕ) (old new : Option (List ℕ)) (before now : ℕ) (bytes : List ℕ) : Type 0 where
  pub within : length bytes ≤ limit
  pub steady : now ≡ before
  pub given : Consumes old new bytes

-- so far the sink took the first so many bytes of the text
pub record HasWritten (text : List ℕ) (old new : Option (List ℕ)) (before now : ℕ) (count : ℕ) : Type 0 where
  pub within : count ≤ length text
  pub steady : now ≡ before
  pub taken : Appends old new (take count text)

-- the bytes read so far and those of one more piece, with their number
pub given_more : (old mid new : Option (List ℕ)) (bytes buf : List ℕ) (n : ℕ) → Consumes old mid bytes → n ≤ length buf → Consumes mid new (take n buf)
    → (given : List ℕ) × Consumes old new given × (length given ≡ length bytes + n)
given_more old mid new bytes buf n before within piece =
    (bytes ++ take n buf, Consumes-trans old mid new bytes (take n buf) before piece, length-append bytes (take n buf) ∙ ap (λ k. length bytes + k) (length-take-le n buf within))

-- one more piece was taken at its front
pub HasWritten-more : (text : List ℕ) (old mid new : Option (List ℕ)) (before then now at n : ℕ) → HasWritten text old mid before then at → now ≡ then
    → n ≤ length (take (length text - at) (drop at text)) → Appends mid new (take n (take (length text - at) (drop at text))) → HasWritten text old new before now (at + n)
HasWritten-more text old mid new before then now at n so_far same within piece =
    let rest : take (length text - at) (drop at text) ≡ drop at text = take_rest text at in
    let in_rest : n ≤ length text - at = omega (arith, length-drop at text, ap length rest) in
    let front : take at text ++ take n (take (length text - at) (drop at text)) ≡ take (at + n) text =
    ap (λ xs. take at text ++ take n xs) rest ∙ sym (take-add at n text) in
    record {
      within = omega arith;
      steady = same ∙ so_far.steady;
      taken = subst (Appends old new) front (Appends-trans old mid new _ _ so_far.taken piece);
    }
