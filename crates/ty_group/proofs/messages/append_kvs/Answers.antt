use Rattle.std.proofs.Common.{rules, ◌≡◌, ℕ, ◌+◌, List, ◌++◌, length, codes, ◌∙◌, ap, arith, length-append}
use Rattle.std.specs.Int.{to_be_bytes, w32}
use Rattle.ty_group.specs.steps.Pieces.{kvs_body}
use Rattle.ty_group.proofs.Texts.{frame_of_parts}
use Rattle.ty_group.proofs.messages.append_kvs.Goals as goal

pub returns-clause-ok : goal.returns-clause-ok
returns-clause-ok c =
    let text : List ℕ = c.args.text.now in
    let size : (8 + length text) + 12 ≡ length (kvs_body text) = omega (arith, length-append text (codes "],\"m\":\"kvs\"}")) in
    let len : List ℕ = to_be_bytes w32 (length (kvs_body text)) in
    let bytes : c.to_be_bytes.result ≡ len = c.to_be_bytes.ensures ∙ ap (to_be_bytes w32) size in
    let a : c.extend_from_slice.new.self.items ≡ c.reserve.new.self.items ++ c.to_be_bytes.result = search rules in
    frame_of_parts c.args.out.now.items len (codes "{\"kvs\":[") text (codes "],\"m\":\"kvs\"}")
    c.extend_from_slice.new.self.items c.extend_from_slice-2.new.self.items c.extend_from_slice-3.new.self.items c.extend_from_slice-4.new.self.items
    (a ∙ ap (λ (x : List ℕ). x ++ c.to_be_bytes.result) c.in_ok-reserve.ensures.items ∙ ap (λ (x : List ℕ). c.args.out.now.items ++ x) bytes)
    (search rules) (search rules) (search rules)
