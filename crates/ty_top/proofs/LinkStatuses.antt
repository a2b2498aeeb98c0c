-- What the exit status of a mode with connections tells of its ending.
use Rattle.std.proofs.Common.{◌≡◌, inl, inr, refl, arith}
use Rattle.ty_top.specs.LinkEndings.{dial_status, serve_status}
use Rattle.ty_top.specs.declared.link_ending.ServeEnd.{ServeEnd}
use Rattle.ty_top.specs.declared.link_ending.ServeEnd.TheVariants as serve
use Rattle.ty_top.specs.declared.link_ending.DialEnd.{DialEnd}
use Rattle.ty_top.specs.declared.link_ending.DialEnd.TheVariants as dial
use Rattle.ty_top.proofs.Statuses.{fault_either, feed_either}

pub serve_0 : (e : ServeEnd) → serve_status e ≡ 0 → e ≡ serve.Done
serve_0 serve.Done s = refl
serve_0 (serve.Fault f) s = elim (feed_either f) [ inl p ↦ absurd (omega (arith, s, p.0)) | inr p ↦ absurd (omega (arith, s, p.0)) ]
serve_0 serve.Read s = absurd (omega arith)
serve_0 serve.Door s = absurd (omega arith)
serve_0 serve.Memory s = absurd (omega arith)

pub serve_1 : (e : ServeEnd) → serve_status e ≡ 1 → ⊥
serve_1 serve.Done s = absurd (omega arith)
serve_1 (serve.Fault f) s = elim (feed_either f) [ inl p ↦ absurd (omega (arith, s, p.0)) | inr p ↦ absurd (omega (arith, s, p.0)) ]
serve_1 serve.Read s = absurd (omega arith)
serve_1 serve.Door s = absurd (omega arith)
serve_1 serve.Memory s = absurd (omega arith)

pub serve_3 : (e : ServeEnd) → serve_status e ≡ 3 → e ≡ serve.Read
serve_3 serve.Done s = absurd (omega arith)
serve_3 (serve.Fault f) s = elim (feed_either f) [ inl p ↦ absurd (omega (arith, s, p.0)) | inr p ↦ absurd (omega (arith, s, p.0)) ]
serve_3 serve.Read s = refl
serve_3 serve.Door s = absurd (omega arith)
serve_3 serve.Memory s = absurd (omega arith)

pub serve_4 : (e : ServeEnd) → serve_status e ≡ 4 → ⊥
serve_4 serve.Done s = absurd (omega arith)
serve_4 (serve.Fault f) s = elim (feed_either f) [ inl p ↦ absurd (omega (arith, s, p.0)) | inr p ↦ absurd (omega (arith, s, p.0)) ]
serve_4 serve.Read s = absurd (omega arith)
serve_4 serve.Door s = absurd (omega arith)
serve_4 serve.Memory s = absurd (omega arith)

pub serve_7 : (e : ServeEnd) → serve_status e ≡ 7 → e ≡ serve.Door
serve_7 serve.Done s = absurd (omega arith)
serve_7 (serve.Fault f) s = elim (feed_either f) [ inl p ↦ absurd (omega (arith, s, p.0)) | inr p ↦ absurd (omega (arith, s, p.0)) ]
serve_7 serve.Read s = absurd (omega arith)
serve_7 serve.Door s = refl
serve_7 serve.Memory s = absurd (omega arith)

pub dial_0 : (e : DialEnd) → dial_status e ≡ 0 → e ≡ dial.Done
dial_0 dial.Done s = refl
dial_0 (dial.Fault f) s = elim (fault_either f) [ inl p ↦ absurd (omega (arith, s, p.0)) | inr p ↦ absurd (omega (arith, s, p.0)) ]
dial_0 (dial.Cut left) s = absurd (omega arith)
dial_0 dial.Link s = absurd (omega arith)
dial_0 dial.Door s = absurd (omega arith)
dial_0 dial.Write s = absurd (omega arith)
dial_0 dial.Memory s = absurd (omega arith)

pub dial_1 : (e : DialEnd) → dial_status e ≡ 1 → ⊥
dial_1 dial.Done s = absurd (omega arith)
dial_1 (dial.Fault f) s = elim (fault_either f) [ inl p ↦ absurd (omega (arith, s, p.0)) | inr p ↦ absurd (omega (arith, s, p.0)) ]
dial_1 (dial.Cut left) s = absurd (omega arith)
dial_1 dial.Link s = absurd (omega arith)
dial_1 dial.Door s = absurd (omega arith)
dial_1 dial.Write s = absurd (omega arith)
dial_1 dial.Memory s = absurd (omega arith)

pub dial_3 : (e : DialEnd) → dial_status e ≡ 3 → ⊥
dial_3 dial.Done s = absurd (omega arith)
dial_3 (dial.Fault f) s = elim (fault_either f) [ inl p ↦ absurd (omega (arith, s, p.0)) | inr p ↦ absurd (omega (arith, s, p.0)) ]
dial_3 (dial.Cut left) s = absurd (omega arith)
dial_3 dial.Link s = absurd (omega arith)
dial_3 dial.Door s = absurd (omega arith)
dial_3 dial.Write s = absurd (omega arith)
dial_3 dial.Memory s = absurd (omega arith)

pub dial_4 : (e : DialEnd) → dial_status e ≡ 4 → e ≡ dial.Write
dial_4 dial.Done s = absurd (omega arith)
dial_4 (dial.Fault f) s = elim (fault_either f) [ inl p ↦ absurd (omega (arith, s, p.0)) | inr p ↦ absurd (omega (arith, s, p.0)) ]
dial_4 (dial.Cut left) s = absurd (omega arith)
dial_4 dial.Link s = absurd (omega arith)
dial_4 dial.Door s = absurd (omega arith)
dial_4 dial.Write s = refl
dial_4 dial.Memory s = absurd (omega arith)

pub dial_7 : (e : DialEnd) → dial_status e ≡ 7 → e ≡ dial.Door
dial_7 dial.Done s = absurd (omega arith)
dial_7 (dial.Fault f) s = elim (fault_either f) [ inl p ↦ absurd (omega (arith, s, p.0)) | inr p ↦ absurd (omega (arith, s, p.0)) ]
dial_7 (dial.Cut left) s = absurd (omega arith)
dial_7 dial.Link s = absurd (omega arith)
dial_7 dial.Door s = refl
dial_7 dial.Write s = absurd (omega arith)
dial_7 dial.Memory s = absurd (omega arith)
