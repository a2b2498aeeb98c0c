-- Doors with their workers: what a run comes to, and that of all runs.
use Rattle.std.proofs.Common.{◌≡◌, ℕ, suc, ◌+◌, ◌≤◌, ◌<◌, Bool, true, false, cond, List, [], ◌∷◌, ◌++◌, length, map, take, drop, refl, sym, ap, subst, ◌∙◌, arith, add-one, get_or, drop-cons, true≢false, inl, inr, eq-or-lt_of_le}
use Rattle.std.specs.Prelude.{Option, None, Some, Result, Ok, Err, IfOk, is_err, sum_by, slice_index_or}
use Rattle.std.specs.List.{All}
use Rattle.std.proofs.lemmas.List.{drop_all, get_or_default}
use Rattle.std.proofs.lemmas.List.Sums.{sum_by-cons}
use Rattle.std.proofs.Math.Seq.{take-append_seam}
use Rattle.ty_account.specs.Known.{Name, Known, KnowsMore}
use Rattle.ty_base.specs.Causes.{HasCause}
use Rattle.ty_base.specs.Doors.{DoorSight}
use Rattle.ty_base.specs.Links.{Sight}
use Rattle.ty_base.specs.Told.{Told}
use Rattle.ty_base.proofs.Telling.{Told-as}
use Rattle.ty_server.specs.Workers.{WorksAt, IsRunOver}
use Rattle.ty_server.specs.WholeServer.{Run, first_failed, IsManned, AreManned, IsServedByAll}
use Rattle.ty_server.specs.steps.Posts.{door_of, run_of, HasAccount, HasFront, IsWithin, IsStaffed, AreStaffed}
use Rattle.ty_server.specs.declared.post.Post.{Post}
use Rattle.ty_server.specs.declared.server.Served.{Served}
use Rattle.ty_server.specs.declared.worker.DoorFault.{DoorFault}
use Rattle.ty_server.specs.declared.worker.TheConstants.{MOST_LINKS}
use Rattle.ty_chain.proofs.Shown.{knows_trans}
use Rattle.ty_server.proofs.Workers.{works_more}

-- A run

module _ {D L : Type 0} (gave got count : D → ℕ) (sight : D → Option (DoorSight L)) (link : L → Option Sight) (faults : L → ℕ) (gives : ℕ → Type 0) where
  abbrev Manned : Known → Run → D → D → Type 0
  Manned known run a b = IsManned gave got count sight link faults gives known run a b

  abbrev Over : Bool → ℕ → D → D → Type 0
  Over closed n a b = Told (IsRunOver closed n) (sight a) (sight b)

  -- from what a run answered
  pub ran : (r : Result ℕ DoorFault) (known : Known) (short : ℕ) (a b : D) → gave b + got a ≡ gave a + got b → IfOk r (λ n. got a + n ≡ got b) → got a + short ≤ got b → got b ≤ got a + MOST_LINKS
      → HasCause (count a) (count b) r → IfOk r (λ n. Over known.closed n a b) → Told (WorksAt link faults gives known short) (sight a) (sight b)
      → Manned known (record { short = short; failed = is_err r }) a b
  ran (Ok n) known short a b back number few most cause over served = record {
    back = back;
    few = few;
    most = most;
    later = cause.later;
    cause = λ e. absurd (true≢false (sym e));
    ends = λ e. (n, number, over);
    served = served;
  }
  ran (Err e) known short a b back number few most cause over served = record {
    back = back;
    few = few;
    most = most;
    later = cause.later;
    cause = λ h. cause.failed;
    ends = λ h. absurd (true≢false h);
    served = served;
  }

  pub at_most : (known : Known) (run : Run) (a b : D) → Manned known run a b → run.short ≤ MOST_LINKS
  at_most known run a b m = omega (arith, m.few, m.most)

  -- over more of the account
  over_later : (known front : Known) (n : ℕ) → KnowsMore known front → (a b : D) → Over known.closed n a b → Over front.closed n a b
  over_later known front n m a b = Told-as (later n) (sight a) (sight b)
    where
      later : (n : ℕ) (x y : DoorSight L) → IsRunOver known.closed n x y → IsRunOver front.closed n x y
      later n x y (inl e) = inl e
      later n x y (inr (inl (e, c))) = inr (inl (e, (m.ends c).1))
      later n x y (inr (inr k)) = inr (inr k)

  pub manned_later : (known front : Known) (run : Run) (a b : D) → KnowsMore known front → Manned known run a b → Manned front run a b
  manned_later known front run a b m h = record {
    back = h.back;
    few = h.few;
    most = h.most;
    later = h.later;
    cause = h.cause;
    ends = λ e. (let o = h.ends e in (o.0, o.1, over_later known front o.0 m a b o.2));
    served = works_more link faults gives known front run.short m (sight a) (sight b) h.served;
  }

  -- All runs

  abbrev Staffed : List (Post D) → List (Post D) → Type 0
  Staffed ps qs = (i : ℕ) (d : Post D) → i < length ps → IsStaffed gave got count sight link faults gives (slice_index_or ps i d) (slice_index_or qs i d)

  pub all_manned : (front : Known) (ps qs : List (Post D)) → length ps ≡ length qs → Staffed ps qs → All (λ (q : Post D). KnowsMore q.worker.front front) qs
      → AreManned gave got count sight link faults gives front (map run_of qs) (map door_of ps) (map door_of qs)
  all_manned front [] [] len s m = tt
  all_manned front [] (q ∷ qs) len s m = absurd (omega (arith, len))
  all_manned front (p ∷ ps) [] len s m = absurd (omega (arith, len))
  all_manned front (p ∷ ps) (q ∷ qs) len s m = (
    manned_later q.worker.front front (run_of q) p.door q.door (m 0 q (omega arith)) (s 0 p (omega arith)).manned,
    all_manned front ps qs (omega (arith, len)) (λ i d h. s (suc i) d (omega (arith, h))) (λ k d h. m (suc k) d (omega (arith, h))),
  )

  pub all_within : (ps qs : List (Post D)) → length ps ≡ length qs → Staffed ps qs → All IsWithin qs
  all_within ps qs len s k d h =
      let x = s k d (omega (arith, len, h)) in
      at_most (slice_index_or qs k d).worker.front (run_of (slice_index_or qs k d)) (slice_index_or ps k d).door (slice_index_or qs k d).door x.manned

  pub all_account : (account : Name) (ps qs : List (Post D)) → length ps ≡ length qs → Staffed ps qs → All (HasAccount account) ps → All (HasAccount account) qs
  all_account account ps qs len s a k d h =
      let w : k < length ps = omega (arith, len, h) in
      (s k d w).knows_more.account ∙ a k d w

-- Sums and places

module _ {D : Type 0} where
  pub shorts : (ps : List (Post D)) → sum_by (λ (p : Post D). p.worker.short) ps ≡ sum_by (λ (r : Run). r.short) (map run_of ps)
  shorts [] = refl
  shorts (p ∷ ps) =
      sum_by-cons (λ (p : Post D). p.worker.short) p ps
      ∙ ap (λ n. p.worker.short + n) (shorts ps)
      ∙ sym (sum_by-cons (λ (r : Run). r.short) (run_of p) (map run_of ps))

  opened : (ps : List (Post D)) (i : ℕ) (p : Post D) → i < length ps → p ≡ get_or ps i p → drop i ps ≡ p ∷ drop (i + 1) ps
  opened ps i p h is = drop-cons ps i p h ∙ ap (λ (n : ℕ). get_or ps i p ∷ drop n ps) (sym (add-one i)) ∙ ap (λ (x : Post D). x ∷ drop (i + 1) ps) (sym is)

  -- the place of the first that failed, behind i others that didn't
  abbrev Owed : ℕ → List (Post D) → Option ℕ
  Owed i ps = first_failed i (map run_of (drop i ps))

  pub failed_here : (ps : List (Post D)) (i : ℕ) (p : Post D) → i < length ps → p ≡ get_or ps i p → is_err p.answer ≡ true → Owed i ps ≡ Some i
  failed_here ps i p h is e = ap (λ (l : List (Post D)). first_failed i (map run_of l)) (opened ps i p h is) ∙ ap (λ (b : Bool). cond b (Some i) (Owed (i + 1) ps)) e

  pub failed_later : (ps : List (Post D)) (i : ℕ) (p : Post D) → i < length ps → p ≡ get_or ps i p → is_err p.answer ≡ false → Owed (i + 1) ps ≡ Owed i ps
  failed_later ps i p h is e = sym (ap (λ (l : List (Post D)). first_failed i (map run_of l)) (opened ps i p h is) ∙ ap (λ (b : Bool). cond b (Some i) (Owed (i + 1) ps)) e)

  pub failed_none : (ps : List (Post D)) (i : ℕ) → length ps ≤ i → Owed i ps ≡ None
  failed_none ps i h = ap (λ (l : List (Post D)). first_failed i (map run_of l)) (drop_all i ps h)

  -- What was met

  abbrev Met : List (Post D) → ℕ → Known → Type 0
  Met ps n front = (k : ℕ) (d : Post D) → k < n → KnowsMore (slice_index_or ps k d).worker.front front

  pub met_more : (ps : List (Post D)) (i : ℕ) (p : Post D) (old new : Known) → i < length ps → p ≡ get_or ps i p → KnowsMore old new → KnowsMore p.worker.front new → Met ps i old → Met ps (i + 1) new
  met_more ps i p old new h is more here before k d w =
      let le : k ≤ i = omega (arith, w) in
      elim (eq-or-lt_of_le le) [
        | inl e ↦
            let same : p ≡ get_or ps k d = is ∙ get_or_default ps i p d h ∙ ap (λ (n : ℕ). get_or ps n d) (sym e) in
            let P : Post D → Type 0 = λ q. KnowsMore q.worker.front new in
            subst P same here
        | inr l ↦ knows_trans (slice_index_or ps k d).worker.front old new (before k d l) more
      ]

  -- Doors that go into posts and come back

  pub front_account : (account : Name) (front : Known) (ps : List (Post D)) → front.account ≡ account → All (HasFront front) ps → All (HasAccount account) ps
  front_account account front ps e h k d w = ap (λ (f : Known). f.account) (h k d w) ∙ e

-- a list that was written back whole into a longer place
pub written_whole : {X : Type 0} (n : ℕ) (xs back : List X) → length xs ≡ n → take n (xs ++ back) ≡ xs
written_whole n xs back len = subst (λ (k : ℕ). take k (xs ++ back) ≡ xs) len (take-append_seam xs back)

-- The whole server, by what was found of the posts as they came back: what was met, the first that failed and the sum

module _ {D L : Type 0} (gave got count : D → ℕ) (sight : D → Option (DoorSight L)) (link : L → Option Sight) (faults : L → ℕ) (gives : ℕ → Type 0) where
  pub whole_server : (served : Served) (ps qs met placed summed : List (Post D)) (xs ys : List D) → length ps ≡ length qs → AreStaffed gave got count sight link faults gives ps qs
      → map door_of ps ≡ xs → ys ≡ map door_of qs → met ≡ qs → All (λ (q : Post D). KnowsMore q.worker.front served.front) met
      → placed ≡ qs → served.door ≡ first_failed 0 (map run_of placed) → summed ≡ qs → served.short ≡ sum_by (λ (p : Post D). p.worker.short) summed
      → IsServedByAll gave got count sight link faults gives served xs ys
  whole_server served ps qs met placed summed xs ys len staffed before back m knows f door s short =
      let front : Known = served.front in
      let runs : List Run = map run_of qs in
      let P : List D → Type 0 = λ l. AreManned gave got count sight link faults gives front runs l ys in
      let Q : List D → Type 0 = λ l. AreManned gave got count sight link faults gives front runs (map door_of ps) l in
      record {
        runs = runs;
        manned = subst P before (subst Q (sym back) (all_manned gave got count sight link faults gives front ps qs len staffed.each (subst (All (λ (q : Post D). KnowsMore q.worker.front front)) m knows)));
        door = door ∙ ap (λ (l : List (Post D)). first_failed 0 (map run_of l)) f;
        short = short ∙ ap (λ (l : List (Post D)). sum_by (λ (p : Post D). p.worker.short) l) s ∙ shorts qs;
      }
