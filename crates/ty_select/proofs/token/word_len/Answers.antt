use Rattle.std.proofs.Common.{sym, arith, rules}
use Rattle.std.proofs.lemmas.List.Sums.{prefix_len_is}
use Rattle.ty_select.specs.Words.{is_word_byte}
use Rattle.ty_select.proofs.token.word_len.Goals as goal

pub returns-then-not-is_word_byte : goal.returns-then-not-is_word_byte
returns-then-not-is_word_byte c =
    sym (prefix_len_is is_word_byte c.args.here.now c.loop-byte.count 0 (omega arith) (λ k h. c.loop-byte.invariant.1 k (omega arith)) (λ _. search rules))

pub returns : goal.returns
returns c =
    sym (prefix_len_is is_word_byte c.args.here.now c.loop-byte.count 0 (omega arith) (λ k h. c.loop-byte.invariant.1 k (omega arith)) (λ h. absurd (omega arith)))
