use Rattle.std.proofs.Common.{◌≡◌, ℕ, ◌+◌, ◌==◌, List, Some, None, take, drop, map, option_map, string_bytes, sym, ap, ◌∙◌, subst}
use Rattle.std.specs.Prelude.{position}
use Rattle.std.proofs.lemmas.List.{take_rest}
use Rattle.std.specs.declared.option.Option.{Option}
use Rattle.cv_words.specs.declared.options.Setting.{Setting}
use Rattle.cv_words.specs.Asked.{option_in, setting_of}
use Rattle.cv_words.proofs.Fronts.{behind, if_none, marked, spaced, valued}
use Rattle.cv_words.proofs.options.read_option.Goals as goal

pub returns-in_err-setting-clause-none : goal.returns-in_err-setting-clause-none
returns-in_err-setting-clause-none c =
    let bytes = c.as_bytes-bytes.ensures.value in
    let there = subst (λ (xs : List ℕ). position (λ b. b == 61) xs ≡ Some c.in-Some.at) bytes (sym c.place_of.ensures.place ∙ c.in-Some.is) in
    let says = c.read_setting.ensures.setting ∙ ap (setting_of (take c.in-Some.at c.as_bytes-bytes.result.now)) (take_rest c.as_bytes-bytes.result.now (c.in-Some.at + 1)) ∙ ap (λ (xs : List ℕ). setting_of (take c.in-Some.at xs) (drop (c.in-Some.at + 1) xs)) bytes in
    let found = marked string_bytes c.args.words.now c.word-item.result c.in-Some.at c.read_setting.result c.in-len1-up.len_at_least c.word-item.is there says in
    if_none c.from_residual.result (option_in (map string_bytes c.args.words.now) ≡ None) (found ∙ ap (λ (o : Option Setting). option_map (λ s. (s, map string_bytes (behind c.args.words.now))) o) c.in_err-setting.was)

pub returns-in-Some-clause-some : goal.returns-in-Some-clause-some
returns-in-Some-clause-some c =
    let bytes = c.as_bytes-bytes.ensures.value in
    let there = subst (λ (xs : List ℕ). position (λ b. b == 61) xs ≡ Some c.in-Some.at) bytes (sym c.place_of.ensures.place ∙ c.in-Some.is) in
    let says = c.read_setting.ensures.setting ∙ ap (setting_of (take c.in-Some.at c.as_bytes-bytes.result.now)) (take_rest c.as_bytes-bytes.result.now (c.in-Some.at + 1)) ∙ ap (λ (xs : List ℕ). setting_of (take c.in-Some.at xs) (drop (c.in-Some.at + 1) xs)) bytes in
    let found = marked string_bytes c.args.words.now c.word-item.result c.in-Some.at c.read_setting.result c.in-len1-up.len_at_least c.word-item.is there says in
    found ∙ ap (λ (o : Option Setting). option_map (λ s. (s, map string_bytes (behind c.args.words.now))) o) c.in_ok-setting.was

pub returns-clause-some : goal.returns-clause-some
returns-clause-some c =
    let bytes = c.as_bytes-bytes.ensures.value in
    let none = subst (λ (xs : List ℕ). position (λ b. b == 61) xs ≡ None) bytes (sym c.place_of.ensures.place ∙ c.in_default-place_of.is) in
    let says = c.read_setting-2.ensures.setting ∙ ap (λ (xs : List ℕ). setting_of xs c.as_bytes.result.now) bytes ∙ ap (λ (xs : List ℕ). setting_of (string_bytes c.word-item.result) xs) c.as_bytes.ensures.value in
    spaced string_bytes c.args.words.now c.word-item.result c.in-len1-up.len_at_least c.word-item.is none
    ∙ valued string_bytes (string_bytes c.word-item.result) (behind c.args.words.now) c.value-item.result c.read_setting-2.result c.in-len1-up-rest.len_at_least c.value-item.is says
    ∙ ap (λ (o : Option Setting). option_map (λ s. (s, map string_bytes (behind (behind c.args.words.now)))) o) c.in_ok-setting-2.was
