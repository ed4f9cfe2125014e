use Rattle.std.proofs.Common.{◌+◌, [], ◌∷◌, drop, ap, sym, ◌∙◌}
use Rattle.cv_lex.specs.Lexemes.{lexemes, with_front}
use Rattle.cv_lex.proofs.Skips.{lexemes-blank, lexemes-lexeme, with_front-append}
use Rattle.cv_lex.proofs.lexing.take_front.Goals as goal

pub returns-in-Blank-clause-ok : goal.returns-in-Blank-clause-ok
returns-in-Blank-clause-ok c =
    ap (with_front c.args.found.now.items) (lexemes-blank c.args.at c.args.rest.now c.in-Blank.more c.requires.some c.in-Blank.ensures.value)

pub returns-in_ok-push-in-Lexeme-clause-ok : goal.returns-in_ok-push-in-Lexeme-clause-ok
returns-in_ok-push-in-Lexeme-clause-ok c =
    let more = c.in-Lexeme.more in
    let behind = lexemes (c.args.at + (more + 1)) 0 (drop (more + 1) c.args.rest.now) in
    ap (with_front c.args.found.now.items) (lexemes-lexeme c.args.at c.args.rest.now c.in-Lexeme.sort c.in-Lexeme.more c.requires.some c.in-Lexeme.ensures.value)
    ∙ with_front-append c.args.found.now.items (record { sort = c.in-Lexeme.sort; at = c.args.at; len = c.in-Lexeme.more + 1 } ∷ []) behind
    ∙ ap (λ ls. with_front ls behind) (sym c.in_ok-push-in-Lexeme.ensures.items)
