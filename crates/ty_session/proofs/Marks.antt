-- Marks and entries that grow at their end.
use Rattle.std.proofs.Common.{◌≡◌, ℕ, ◌-◌, ◌<◌, ◌≤◌, ◌^◌, List, [], ◌∷◌, ◌++◌, length, take, drop, refl, sym, ap, ◌∙◌, arith, append-nil, length-drop}
use Rattle.std.specs.Prelude.{flat_map}
use Rattle.std.specs.List.{slice_range}
use Rattle.std.proofs.lemmas.List.{take_all, drop-append-le}
use Rattle.std.proofs.lemmas.List.Sums.{fold_push}
use Rattle.std.proofs.lemmas.Grind.{flat_map-append}
use Rattle.ty_base.specs.Feed.{replay}
use Rattle.ty_base.specs.declared.entry.Entry.{Entry}
use Rattle.ty_base.specs.declared.delta.Delta.{Delta}
use Rattle.ty_wire.specs.Wire.{frames}
use Rattle.ty_wire.specs.Talk.{world_after, deltas_between}
use Rattle.ty_wire.specs.declared.message.Msg.{Msg}
use Rattle.ty_marks.specs.Marks.{Mark, start, group, ping, crumb_end_of, end_after, mark_messages, messages_after, bytes_of, Follow, AreMarks}
use Rattle.ty_marks.proofs.Marks.{bytes-more}

-- ---- one mark more

pub end-push : (marks : List Mark) (m : Mark) → end_after 0 (marks ++ m ∷ []) ≡ crumb_end_of (end_after 0 marks) m
end-push marks m = fold_push crumb_end_of 0 marks m

messages-one : (es : List Entry) (from : ℕ) (m : Mark) → messages_after es from (m ∷ []) ≡ mark_messages es from m
unfolding messages_after
messages-one es from m = append-nil (mark_messages es from m)

pub bytes-push : (es : List Entry) (marks : List Mark) (m : Mark) → bytes_of es (marks ++ m ∷ []) ≡ bytes_of es marks ++ frames (mark_messages es (end_after 0 marks) m)
bytes-push es marks m = bytes-more es marks (m ∷ []) ∙ ap (λ (l : List Msg). bytes_of es marks ++ frames l) (messages-one es (end_after 0 marks) m)

pub bytes-none : (es : List Entry) → bytes_of es [] ≡ []
unfolding messages_after
bytes-none es = refl

pub bytes-start : (es : List Entry) (n : ℕ) → bytes_of es (start n ∷ []) ≡ frames (mark_messages es 0 (start n))
bytes-start es n = ap frames (messages-one es 0 (start n))

-- what is queued grows with what is said
pub out-more : (out all more : List ℕ) (n : ℕ) → n ≤ length all → out ≡ drop n all → out ++ more ≡ drop n (all ++ more)
out-more out all more n h e = ap (λ (l : List ℕ). l ++ more) e ∙ sym (drop-append-le n all more h)

-- ---- marks in order

follow-push : (from : ℕ) (marks : List Mark) (most ts : ℕ) → Follow from marks most → ts < 2 ^ 64 → Follow from (marks ++ ping ts ∷ []) most
follow-push from [] most ts f h = (h, f)
follow-push from (start n ∷ marks) most ts f h = absurd f
follow-push from (group n ∷ marks) most ts f h = (f.0, follow-push n marks most ts f.1 h)
follow-push from (ping t ∷ marks) most ts f h = (f.0, follow-push from marks most ts f.1 h)

follow-close : (from : ℕ) (marks : List Mark) (most : ℕ) → Follow from marks most → end_after from marks < most → Follow from (marks ++ group most ∷ []) most
follow-close from [] most f h = (h, omega arith)
follow-close from (start n ∷ marks) most f h = absurd f
follow-close from (group n ∷ marks) most f h = (f.0, follow-close n marks most f.1 h)
follow-close from (ping t ∷ marks) most f h = (f.0, follow-close from marks most f.1 h)

follow-more : (from : ℕ) (marks : List Mark) (most more : ℕ) → Follow from marks most → most ≤ more → Follow from marks more
follow-more from [] most more f h = omega (arith, f, h)
follow-more from (start n ∷ marks) most more f h = absurd f
follow-more from (group n ∷ marks) most more f h = (f.0, follow-more n marks most more f.1 h)
follow-more from (ping t ∷ marks) most more f h = (f.0, follow-more from marks most more f.1 h)

pub marks-ping : (marks : List Mark) (most ts : ℕ) → AreMarks marks most → 0 < length marks → ts < 2 ^ 64 → AreMarks (marks ++ ping ts ∷ []) most
marks-ping [] most ts a l h = absurd (omega (arith, l))
marks-ping (start n ∷ marks) most ts a l h = follow-push n marks most ts a h
marks-ping (group n ∷ marks) most ts a l h = absurd a
marks-ping (ping t ∷ marks) most ts a l h = absurd a

pub marks-close : (marks : List Mark) (most : ℕ) → AreMarks marks most → 0 < length marks → end_after 0 marks < most → AreMarks (marks ++ group most ∷ []) most
marks-close [] most a l h = absurd (omega (arith, l))
marks-close (start n ∷ marks) most a l h = follow-close n marks most a h
marks-close (group n ∷ marks) most a l h = absurd a
marks-close (ping t ∷ marks) most a l h = absurd a

pub marks-more : (marks : List Mark) (most more : ℕ) → AreMarks marks most → most ≤ more → AreMarks marks more
marks-more [] most more a h = tt
marks-more (start n ∷ marks) most more a h = follow-more n marks most more a h
marks-more (group n ∷ marks) most more a h = absurd a
marks-more (ping t ∷ marks) most more a h = absurd a

follow-end : (from : ℕ) (marks : List Mark) (most : ℕ) → Follow from marks most → end_after from marks ≤ most
follow-end from [] most f = f
follow-end from (start n ∷ marks) most f = absurd f
follow-end from (group n ∷ marks) most f = follow-end n marks most f.1
follow-end from (ping t ∷ marks) most f = follow-end from marks most f.1

pub marks-end : (marks : List Mark) (most : ℕ) → AreMarks marks most → end_after 0 marks ≤ most
marks-end [] most a = omega arith
marks-end (start n ∷ marks) most a = follow-end n marks most a
marks-end (group n ∷ marks) most a = absurd a
marks-end (ping t ∷ marks) most a = absurd a

-- ---- one entry more

abbrev joined : List Entry → List Delta
joined es = flat_map (λ e. e.deltas) es

pub world-whole : (es : List Entry) → world_after es (length es) ≡ replay es
world-whole es = ap replay (take_all (length es) es (omega arith))

behind : (es : List Entry) (from : ℕ) → slice_range es from (length es) ≡ drop from es
behind es from = take_all (length es - from) (drop from es) (omega (arith, length-drop from es))

-- the joined deltas of the held group grow by those of the entry
pub between-push : (es : List Entry) (e : Entry) (from : ℕ) → from ≤ length es → deltas_between (es ++ e ∷ []) from (length (es ++ e ∷ [])) ≡ deltas_between es from (length es) ++ e.deltas
between-push es e from h =
    ap joined (behind (es ++ e ∷ []) from ∙ drop-append-le from es (e ∷ []) h)
    ∙ flat_map-append (λ e. e.deltas) (drop from es) (e ∷ [])
    ∙ ap (λ (l : List Delta). joined (drop from es) ++ l) (append-nil e.deltas)
    ∙ ap (λ (l : List Entry). joined l ++ e.deltas) (sym (behind es from))

pub between-none : (es : List Entry) → deltas_between es (length es) (length es) ≡ []
between-none es =
    let zero_left : length es - length es ≡ 0 = omega arith in
    ap (λ (n : ℕ). joined (take n (drop (length es) es))) zero_left
