use Rattle.std.proofs.Common.{◌≡◌, ◌≤◌, List, ℕ, length, ap, ◌∙◌, subst}
use Rattle.serde_json.specs.Written.{has_float, compact_text}
use Rattle.cv_token.specs.Reading.{reading, tree_of}
use Rattle.cv_token.specs.Spelling.{spelling}
use Rattle.cv_token.proofs.Round.{reading-spelling, tree_of-spelling}
use Rattle.cv_token.proofs.Spelled.{spelled}
use Rattle.cv_token.proofs.writing.text.Goals as goal

text_is : (c : goal.After-from_string) → c.from_string.result ≡ spelling c.args.token.now
text_is c =
    let is = c.in_ok-value_of.ensures.value in
    let s = spelled c.args.token.now in
    c.from_string.ensures ∙ c.in_ok-text.ensures.text (ap has_float is ∙ s.0) ∙ ap compact_text is ∙ s.1

pub returns : goal.returns
returns c =
    let t = c.args.token.now in
    let is = text_is c in
    let known = c.in_ok-value_of.ensures.known in
    record {
      spelled = is;
      read_back = λ shallow short. ap reading is ∙ reading-spelling t (record { token = known; shallow = shallow; short = subst (λ (s : List ℕ). length s ≤ 1024) is short });
      tree_back = λ shallow. ap tree_of is ∙ tree_of-spelling t known shallow;
      known = known;
    }
