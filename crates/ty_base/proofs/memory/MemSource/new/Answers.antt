use Rattle.std.proofs.Common.{◌≡◌, ◌+◌, ◌∙◌, ◌++◌, ◌∷◌, [], List, ℕ, length, take, map, flat_map, ap}
use Rattle.ty_base.specs.Memory.{ends_after}
use Rattle.ty_base.proofs.Taken.{bytes_more, ends_more}
use Rattle.ty_base.proofs.memory.MemSource.new.Goals as goal

pub loop-piece-preserved : goal.loop-piece-preserved
loop-piece-preserved c =
    let ps = c.deref-piece-items.result.now in
    let i = c.loop-piece.piece-index in
    let bytes : c.extend_from_slice.new.self.items ≡ flat_map (λ p. p.items) (take (i + 1) ps) =
    c.in_ok-extend_from_slice.ensures.items ∙ ap (λ (bs : List ℕ). bs ++ c.deref.result.now) c.loop-piece.invariant.bytes
    ∙ ap (λ (bs : List ℕ). flat_map (λ p. p.items) (take i ps) ++ bs) c.deref.ensures.value
    ∙ bytes_more (λ p. p.items) ps i c.piece-item.result c.loop-piece-test.true c.piece-item.is in
    record {
      bytes = bytes;
      ends = c.in_ok-push.ensures.items ∙ ap (λ (es : List ℕ). es ++ length c.as_slice.result.now ∷ []) c.loop-piece.invariant.ends
          ∙ ap (λ (n : ℕ). ends_after 0 (map (λ p. p.items) (take i ps)) ++ n ∷ []) (ap (λ (bs : List ℕ). length bs) (c.as_slice.ensures.value ∙ bytes))
          ∙ ends_more (λ p. p.items) ps i c.piece-item.result c.loop-piece-test.true c.piece-item.is;
    }
