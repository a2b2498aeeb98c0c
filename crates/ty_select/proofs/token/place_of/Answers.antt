use Rattle.std.proofs.Common.{◌==◌, ◌≡◌, length, ℕ, sym, arith, rules}
use Rattle.std.specs.List.{position_or_len}
use Rattle.std.proofs.lemmas.List.Sums.{position_or_len_is}
use Rattle.ty_select.proofs.token.place_of.Goals as goal

pub returns-then-b-byte : goal.returns-then-b-byte
returns-then-b-byte c =
    sym (position_or_len_is (λ b. b == c.args.byte) c.args.bytes.now c.loop-i.i 0 (omega arith) c.loop-i.invariant (λ _. search rules))

pub returns : goal.returns
returns c =
    let all : position_or_len (λ (b : ℕ). b == c.args.byte) c.args.bytes.now ≡ length c.args.bytes.now =
    position_or_len_is (λ b. b == c.args.byte) c.args.bytes.now (length c.args.bytes.now) 0 (omega arith) (λ k h. c.loop-i.invariant k (omega arith)) (λ h. absurd (omega arith)) in
    sym all
