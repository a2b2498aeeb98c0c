-- What a run's exit status tells of its ending.
use Rattle.std.specs.Prelude.{Some}
use Rattle.std.proofs.Common.{◌≡◌, ◌≢◌, ◌⊎◌, inl, inr, true, false, true≢false, ℕ, Bool, refl, sym, ◌∙◌, arith, ap}
use Rattle.ty_wire.specs.declared.fault.WireFault.TheVariants as wire
use Rattle.ty_intake.specs.declared.intake.IntakeFault.{IntakeFault}
use Rattle.ty_intake.specs.declared.intake.IntakeFault.TheVariants as feed
use Rattle.ty_client.specs.declared.fault.StreamFault.{StreamFault}
use Rattle.ty_client.specs.declared.fault.StreamFault.TheVariants as stream
use Rattle.ty_core.specs.declared.simulation.SimFault.{SimFault}
use Rattle.ty_core.specs.declared.simulation.SimFault.TheVariants as sim
use Rattle.ty_top.specs.Endings.{exit_status, stream_status, follow_status, sim_status, load_status, fault_status, feed_status, script_line, script_status}
use Rattle.ty_top.specs.declared.ending.Ending.{Ending}
use Rattle.ty_top.specs.declared.ending.Ending.TheVariants.{Usage, Memory, Stream, Follow, Sim, Load}
use Rattle.ty_top.specs.declared.ending.StreamEnd.{StreamEnd}
use Rattle.ty_top.specs.declared.ending.StreamEnd.TheVariants as stream_end
use Rattle.ty_top.specs.declared.ending.FollowEnd.{FollowEnd}
use Rattle.ty_top.specs.declared.ending.FollowEnd.TheVariants as follow_end
use Rattle.ty_top.specs.declared.ending.SimEnd.{SimEnd}
use Rattle.ty_top.specs.declared.ending.SimEnd.TheVariants as sim_end
use Rattle.ty_top.specs.declared.ending.LoadEnd.{LoadEnd}
use Rattle.ty_top.specs.declared.ending.LoadEnd.TheVariants as load_end

-- a feed's fault, and a connection's

abbrev is_line : IntakeFault → Bool
is_line (feed.LongLine n) = true
is_line (feed.BadUtf8 n) = true
is_line (feed.BadLine n) = true
is_line feed.TooMuch = false

line_fault : (f : IntakeFault) → is_line f ≡ true → f ≢ feed.TooMuch
line_fault f t e = true≢false (sym t ∙ ap is_line e)

pub feed_either : (f : IntakeFault) → ((feed_status f ≡ 2) × (f ≢ feed.TooMuch)) ⊎ ((feed_status f ≡ 8) × (f ≡ feed.TooMuch))
feed_either (feed.LongLine n) = inl (refl, line_fault (feed.LongLine n) refl)
feed_either (feed.BadUtf8 n) = inl (refl, line_fault (feed.BadUtf8 n) refl)
feed_either (feed.BadLine n) = inl (refl, line_fault (feed.BadLine n) refl)
feed_either feed.TooMuch = inr (refl, refl)

abbrev is_frame : StreamFault → Bool
is_frame (stream.Wire wire.TooMuch) = false
is_frame (stream.Wire (wire.TooLong k len)) = true
is_frame (stream.Wire (wire.NotJson k)) = true
is_frame (stream.Wire (wire.Shape k)) = true
is_frame (stream.Version found) = true
is_frame (stream.Order k) = true
is_frame (stream.NotRising k had found) = true

frame_fault : (f : StreamFault) → is_frame f ≡ true → f ≢ stream.Wire wire.TooMuch
frame_fault f t e = true≢false (sym t ∙ ap is_frame e)

pub fault_either : (f : StreamFault) → ((fault_status f ≡ 6) × (f ≢ stream.Wire wire.TooMuch)) ⊎ ((fault_status f ≡ 8) × (f ≡ stream.Wire wire.TooMuch))
fault_either (stream.Wire wire.TooMuch) = inr (refl, refl)
fault_either (stream.Wire (wire.TooLong k len)) = inl (refl, frame_fault (stream.Wire (wire.TooLong k len)) refl)
fault_either (stream.Wire (wire.NotJson k)) = inl (refl, frame_fault (stream.Wire (wire.NotJson k)) refl)
fault_either (stream.Wire (wire.Shape k)) = inl (refl, frame_fault (stream.Wire (wire.Shape k)) refl)
fault_either (stream.Version found) = inl (refl, frame_fault (stream.Version found) refl)
fault_either (stream.Order k) = inl (refl, frame_fault (stream.Order k) refl)
fault_either (stream.NotRising k had found) = inl (refl, frame_fault (stream.NotRising k had found) refl)

-- of `stream`

s_zero : (e : StreamEnd) → stream_status e ≡ 0 → e ≡ stream_end.Done
s_zero stream_end.Done s = refl
s_zero stream_end.Read s = absurd (omega arith)
s_zero stream_end.Write s = absurd (omega arith)
s_zero stream_end.Memory s = absurd (omega arith)
s_zero (stream_end.Fault f) s = elim (feed_either f) [ inl p ↦ absurd (omega (arith, s, p.0)) | inr p ↦ absurd (omega (arith, s, p.0)) ]

s_two : (e : StreamEnd) → stream_status e ≡ 2 → (f : IntakeFault) × (f ≢ feed.TooMuch) × (e ≡ stream_end.Fault f)
s_two stream_end.Done s = absurd (omega arith)
s_two stream_end.Read s = absurd (omega arith)
s_two stream_end.Write s = absurd (omega arith)
s_two stream_end.Memory s = absurd (omega arith)
s_two (stream_end.Fault f) s = elim (feed_either f) [ inl p ↦ (f, p.1, refl) | inr p ↦ absurd (omega (arith, s, p.0)) ]

s_three : (e : StreamEnd) → stream_status e ≡ 3 → e ≡ stream_end.Read
s_three stream_end.Done s = absurd (omega arith)
s_three stream_end.Read s = refl
s_three stream_end.Write s = absurd (omega arith)
s_three stream_end.Memory s = absurd (omega arith)
s_three (stream_end.Fault f) s = elim (feed_either f) [ inl p ↦ absurd (omega (arith, s, p.0)) | inr p ↦ absurd (omega (arith, s, p.0)) ]

s_four : (e : StreamEnd) → stream_status e ≡ 4 → e ≡ stream_end.Write
s_four stream_end.Done s = absurd (omega arith)
s_four stream_end.Read s = absurd (omega arith)
s_four stream_end.Write s = refl
s_four stream_end.Memory s = absurd (omega arith)
s_four (stream_end.Fault f) s = elim (feed_either f) [ inl p ↦ absurd (omega (arith, s, p.0)) | inr p ↦ absurd (omega (arith, s, p.0)) ]

s_five : (e : StreamEnd) → stream_status e ≡ 5 → e ≡ stream_end.Memory
s_five stream_end.Done s = absurd (omega arith)
s_five stream_end.Read s = absurd (omega arith)
s_five stream_end.Write s = absurd (omega arith)
s_five stream_end.Memory s = refl
s_five (stream_end.Fault f) s = elim (feed_either f) [ inl p ↦ absurd (omega (arith, s, p.0)) | inr p ↦ absurd (omega (arith, s, p.0)) ]

s_six : (e : StreamEnd) → stream_status e ≡ 6 → ⊥
s_six stream_end.Done s = absurd (omega arith)
s_six stream_end.Read s = absurd (omega arith)
s_six stream_end.Write s = absurd (omega arith)
s_six stream_end.Memory s = absurd (omega arith)
s_six (stream_end.Fault f) s = elim (feed_either f) [ inl p ↦ absurd (omega (arith, s, p.0)) | inr p ↦ absurd (omega (arith, s, p.0)) ]

s_eight : (e : StreamEnd) → stream_status e ≡ 8 → e ≡ stream_end.Fault feed.TooMuch
s_eight stream_end.Done s = absurd (omega arith)
s_eight stream_end.Read s = absurd (omega arith)
s_eight stream_end.Write s = absurd (omega arith)
s_eight stream_end.Memory s = absurd (omega arith)
s_eight (stream_end.Fault f) s = elim (feed_either f) [ inl p ↦ absurd (omega (arith, s, p.0)) | inr p ↦ ap (λ (x : IntakeFault). stream_end.Fault x) p.1 ]

s_nine : (e : StreamEnd) → stream_status e ≡ 9 → ⊥
s_nine stream_end.Done s = absurd (omega arith)
s_nine stream_end.Read s = absurd (omega arith)
s_nine stream_end.Write s = absurd (omega arith)
s_nine stream_end.Memory s = absurd (omega arith)
s_nine (stream_end.Fault f) s = elim (feed_either f) [ inl p ↦ absurd (omega (arith, s, p.0)) | inr p ↦ absurd (omega (arith, s, p.0)) ]

-- of `follow`

f_zero : (e : FollowEnd) → follow_status e ≡ 0 → e ≡ follow_end.Done
f_zero follow_end.Done s = refl
f_zero follow_end.Read s = absurd (omega arith)
f_zero follow_end.Write s = absurd (omega arith)
f_zero follow_end.Memory s = absurd (omega arith)
f_zero (follow_end.Cut n) s = absurd (omega arith)
f_zero (follow_end.Fault f) s = elim (fault_either f) [ inl p ↦ absurd (omega (arith, s, p.0)) | inr p ↦ absurd (omega (arith, s, p.0)) ]

f_two : (e : FollowEnd) → follow_status e ≡ 2 → ⊥
f_two follow_end.Done s = absurd (omega arith)
f_two follow_end.Read s = absurd (omega arith)
f_two follow_end.Write s = absurd (omega arith)
f_two follow_end.Memory s = absurd (omega arith)
f_two (follow_end.Cut n) s = absurd (omega arith)
f_two (follow_end.Fault f) s = elim (fault_either f) [ inl p ↦ absurd (omega (arith, s, p.0)) | inr p ↦ absurd (omega (arith, s, p.0)) ]

f_three : (e : FollowEnd) → follow_status e ≡ 3 → e ≡ follow_end.Read
f_three follow_end.Done s = absurd (omega arith)
f_three follow_end.Read s = refl
f_three follow_end.Write s = absurd (omega arith)
f_three follow_end.Memory s = absurd (omega arith)
f_three (follow_end.Cut n) s = absurd (omega arith)
f_three (follow_end.Fault f) s = elim (fault_either f) [ inl p ↦ absurd (omega (arith, s, p.0)) | inr p ↦ absurd (omega (arith, s, p.0)) ]

f_four : (e : FollowEnd) → follow_status e ≡ 4 → e ≡ follow_end.Write
f_four follow_end.Done s = absurd (omega arith)
f_four follow_end.Read s = absurd (omega arith)
f_four follow_end.Write s = refl
f_four follow_end.Memory s = absurd (omega arith)
f_four (follow_end.Cut n) s = absurd (omega arith)
f_four (follow_end.Fault f) s = elim (fault_either f) [ inl p ↦ absurd (omega (arith, s, p.0)) | inr p ↦ absurd (omega (arith, s, p.0)) ]

f_five : (e : FollowEnd) → follow_status e ≡ 5 → e ≡ follow_end.Memory
f_five follow_end.Done s = absurd (omega arith)
f_five follow_end.Read s = absurd (omega arith)
f_five follow_end.Write s = absurd (omega arith)
f_five follow_end.Memory s = refl
f_five (follow_end.Cut n) s = absurd (omega arith)
f_five (follow_end.Fault f) s = elim (fault_either f) [ inl p ↦ absurd (omega (arith, s, p.0)) | inr p ↦ absurd (omega (arith, s, p.0)) ]

f_six : (e : FollowEnd) → follow_status e ≡ 6 → (f : StreamFault) × (f ≢ stream.Wire wire.TooMuch) × (e ≡ follow_end.Fault f)
f_six follow_end.Done s = absurd (omega arith)
f_six follow_end.Read s = absurd (omega arith)
f_six follow_end.Write s = absurd (omega arith)
f_six follow_end.Memory s = absurd (omega arith)
f_six (follow_end.Cut n) s = absurd (omega arith)
f_six (follow_end.Fault f) s = elim (fault_either f) [ inl p ↦ (f, p.1, refl) | inr p ↦ absurd (omega (arith, s, p.0)) ]

f_eight : (e : FollowEnd) → follow_status e ≡ 8 → e ≡ follow_end.Fault (stream.Wire wire.TooMuch)
f_eight follow_end.Done s = absurd (omega arith)
f_eight follow_end.Read s = absurd (omega arith)
f_eight follow_end.Write s = absurd (omega arith)
f_eight follow_end.Memory s = absurd (omega arith)
f_eight (follow_end.Cut n) s = absurd (omega arith)
f_eight (follow_end.Fault f) s = elim (fault_either f) [ inl p ↦ absurd (omega (arith, s, p.0)) | inr p ↦ ap (λ (x : StreamFault). follow_end.Fault x) p.1 ]

f_nine : (e : FollowEnd) → follow_status e ≡ 9 → (left : ℕ) × (e ≡ follow_end.Cut left)
f_nine follow_end.Done s = absurd (omega arith)
f_nine follow_end.Read s = absurd (omega arith)
f_nine follow_end.Write s = absurd (omega arith)
f_nine follow_end.Memory s = absurd (omega arith)
f_nine (follow_end.Cut n) s = (n, refl)
f_nine (follow_end.Fault f) s = elim (fault_either f) [ inl p ↦ absurd (omega (arith, s, p.0)) | inr p ↦ absurd (omega (arith, s, p.0)) ]

s_one : (e : StreamEnd) → stream_status e ≡ 1 → ⊥
s_one stream_end.Done s = absurd (omega arith)
s_one stream_end.Read s = absurd (omega arith)
s_one stream_end.Write s = absurd (omega arith)
s_one stream_end.Memory s = absurd (omega arith)
s_one (stream_end.Fault f) s = elim (feed_either f) [ inl p ↦ absurd (omega (arith, s, p.0)) | inr p ↦ absurd (omega (arith, s, p.0)) ]

f_one : (e : FollowEnd) → follow_status e ≡ 1 → ⊥
f_one follow_end.Done s = absurd (omega arith)
f_one follow_end.Read s = absurd (omega arith)
f_one follow_end.Write s = absurd (omega arith)
f_one follow_end.Memory s = absurd (omega arith)
f_one (follow_end.Cut n) s = absurd (omega arith)
f_one (follow_end.Fault f) s = elim (fault_either f) [ inl p ↦ absurd (omega (arith, s, p.0)) | inr p ↦ absurd (omega (arith, s, p.0)) ]

-- of `sim`

pub sim_done : (e : SimEnd) → sim_status e ≡ 0 → e ≡ sim_end.Done
sim_done sim_end.Done s = refl
sim_done (sim_end.Stopped (sim.Event n)) s = absurd (omega arith)
sim_done (sim_end.Stopped (sim.Feed n f)) s = absurd (omega arith)
sim_done (sim_end.Stopped (sim.LongLine n)) s = absurd (omega arith)
sim_done (sim_end.Stopped sim.TooMuch) s = absurd (omega arith)
sim_done (sim_end.Stopped sim.Read) s = absurd (omega arith)
sim_done (sim_end.Stopped sim.Write) s = absurd (omega arith)
sim_done (sim_end.Stopped sim.NoMemory) s = absurd (omega arith)

m_one : (e : SimEnd) → sim_status e ≡ 1 → ⊥
m_one sim_end.Done s = absurd (omega arith)
m_one (sim_end.Stopped (sim.Event n)) s = absurd (omega arith)
m_one (sim_end.Stopped (sim.Feed n f)) s = absurd (omega arith)
m_one (sim_end.Stopped (sim.LongLine n)) s = absurd (omega arith)
m_one (sim_end.Stopped sim.TooMuch) s = absurd (omega arith)
m_one (sim_end.Stopped sim.Read) s = absurd (omega arith)
m_one (sim_end.Stopped sim.Write) s = absurd (omega arith)
m_one (sim_end.Stopped sim.NoMemory) s = absurd (omega arith)

m_two : (e : SimEnd) → sim_status e ≡ 2 → (f : SimFault) × (n : ℕ) × (script_line f ≡ Some n) × (e ≡ sim_end.Stopped f)
m_two sim_end.Done s = absurd (omega arith)
m_two (sim_end.Stopped (sim.Event n)) s = ((sim.Event n), n, refl, refl)
m_two (sim_end.Stopped (sim.Feed n f)) s = ((sim.Feed n f), n, refl, refl)
m_two (sim_end.Stopped (sim.LongLine n)) s = ((sim.LongLine n), n, refl, refl)
m_two (sim_end.Stopped sim.TooMuch) s = absurd (omega arith)
m_two (sim_end.Stopped sim.Read) s = absurd (omega arith)
m_two (sim_end.Stopped sim.Write) s = absurd (omega arith)
m_two (sim_end.Stopped sim.NoMemory) s = absurd (omega arith)

m_three : (e : SimEnd) → sim_status e ≡ 3 → e ≡ sim_end.Stopped sim.Read
m_three sim_end.Done s = absurd (omega arith)
m_three (sim_end.Stopped (sim.Event n)) s = absurd (omega arith)
m_three (sim_end.Stopped (sim.Feed n f)) s = absurd (omega arith)
m_three (sim_end.Stopped (sim.LongLine n)) s = absurd (omega arith)
m_three (sim_end.Stopped sim.TooMuch) s = absurd (omega arith)
m_three (sim_end.Stopped sim.Read) s = refl
m_three (sim_end.Stopped sim.Write) s = absurd (omega arith)
m_three (sim_end.Stopped sim.NoMemory) s = absurd (omega arith)

m_four : (e : SimEnd) → sim_status e ≡ 4 → e ≡ sim_end.Stopped sim.Write
m_four sim_end.Done s = absurd (omega arith)
m_four (sim_end.Stopped (sim.Event n)) s = absurd (omega arith)
m_four (sim_end.Stopped (sim.Feed n f)) s = absurd (omega arith)
m_four (sim_end.Stopped (sim.LongLine n)) s = absurd (omega arith)
m_four (sim_end.Stopped sim.TooMuch) s = absurd (omega arith)
m_four (sim_end.Stopped sim.Read) s = absurd (omega arith)
m_four (sim_end.Stopped sim.Write) s = refl
m_four (sim_end.Stopped sim.NoMemory) s = absurd (omega arith)

m_five : (e : SimEnd) → sim_status e ≡ 5 → e ≡ sim_end.Stopped sim.NoMemory
m_five sim_end.Done s = absurd (omega arith)
m_five (sim_end.Stopped (sim.Event n)) s = absurd (omega arith)
m_five (sim_end.Stopped (sim.Feed n f)) s = absurd (omega arith)
m_five (sim_end.Stopped (sim.LongLine n)) s = absurd (omega arith)
m_five (sim_end.Stopped sim.TooMuch) s = absurd (omega arith)
m_five (sim_end.Stopped sim.Read) s = absurd (omega arith)
m_five (sim_end.Stopped sim.Write) s = absurd (omega arith)
m_five (sim_end.Stopped sim.NoMemory) s = refl

m_six : (e : SimEnd) → sim_status e ≡ 6 → ⊥
m_six sim_end.Done s = absurd (omega arith)
m_six (sim_end.Stopped (sim.Event n)) s = absurd (omega arith)
m_six (sim_end.Stopped (sim.Feed n f)) s = absurd (omega arith)
m_six (sim_end.Stopped (sim.LongLine n)) s = absurd (omega arith)
m_six (sim_end.Stopped sim.TooMuch) s = absurd (omega arith)
m_six (sim_end.Stopped sim.Read) s = absurd (omega arith)
m_six (sim_end.Stopped sim.Write) s = absurd (omega arith)
m_six (sim_end.Stopped sim.NoMemory) s = absurd (omega arith)

m_eight : (e : SimEnd) → sim_status e ≡ 8 → e ≡ sim_end.Stopped sim.TooMuch
m_eight sim_end.Done s = absurd (omega arith)
m_eight (sim_end.Stopped (sim.Event n)) s = absurd (omega arith)
m_eight (sim_end.Stopped (sim.Feed n f)) s = absurd (omega arith)
m_eight (sim_end.Stopped (sim.LongLine n)) s = absurd (omega arith)
m_eight (sim_end.Stopped sim.TooMuch) s = refl
m_eight (sim_end.Stopped sim.Read) s = absurd (omega arith)
m_eight (sim_end.Stopped sim.Write) s = absurd (omega arith)
m_eight (sim_end.Stopped sim.NoMemory) s = absurd (omega arith)

m_nine : (e : SimEnd) → sim_status e ≡ 9 → ⊥
m_nine sim_end.Done s = absurd (omega arith)
m_nine (sim_end.Stopped (sim.Event n)) s = absurd (omega arith)
m_nine (sim_end.Stopped (sim.Feed n f)) s = absurd (omega arith)
m_nine (sim_end.Stopped (sim.LongLine n)) s = absurd (omega arith)
m_nine (sim_end.Stopped sim.TooMuch) s = absurd (omega arith)
m_nine (sim_end.Stopped sim.Read) s = absurd (omega arith)
m_nine (sim_end.Stopped sim.Write) s = absurd (omega arith)
m_nine (sim_end.Stopped sim.NoMemory) s = absurd (omega arith)

-- of `load`

l_zero : (e : LoadEnd) → load_status e ≡ 0 → e ≡ load_end.Done
l_zero load_end.Done s = refl
l_zero load_end.Write s = absurd (omega arith)
l_zero load_end.Memory s = absurd (omega arith)

l_one : (e : LoadEnd) → load_status e ≡ 1 → ⊥
l_one load_end.Done s = absurd (omega arith)
l_one load_end.Write s = absurd (omega arith)
l_one load_end.Memory s = absurd (omega arith)

l_two : (e : LoadEnd) → load_status e ≡ 2 → ⊥
l_two load_end.Done s = absurd (omega arith)
l_two load_end.Write s = absurd (omega arith)
l_two load_end.Memory s = absurd (omega arith)

l_three : (e : LoadEnd) → load_status e ≡ 3 → ⊥
l_three load_end.Done s = absurd (omega arith)
l_three load_end.Write s = absurd (omega arith)
l_three load_end.Memory s = absurd (omega arith)

l_four : (e : LoadEnd) → load_status e ≡ 4 → e ≡ load_end.Write
l_four load_end.Done s = absurd (omega arith)
l_four load_end.Write s = refl
l_four load_end.Memory s = absurd (omega arith)

l_five : (e : LoadEnd) → load_status e ≡ 5 → e ≡ load_end.Memory
l_five load_end.Done s = absurd (omega arith)
l_five load_end.Write s = absurd (omega arith)
l_five load_end.Memory s = refl

l_six : (e : LoadEnd) → load_status e ≡ 6 → ⊥
l_six load_end.Done s = absurd (omega arith)
l_six load_end.Write s = absurd (omega arith)
l_six load_end.Memory s = absurd (omega arith)

l_eight : (e : LoadEnd) → load_status e ≡ 8 → ⊥
l_eight load_end.Done s = absurd (omega arith)
l_eight load_end.Write s = absurd (omega arith)
l_eight load_end.Memory s = absurd (omega arith)

l_nine : (e : LoadEnd) → load_status e ≡ 9 → ⊥
l_nine load_end.Done s = absurd (omega arith)
l_nine load_end.Write s = absurd (omega arith)
l_nine load_end.Memory s = absurd (omega arith)

-- of any

pub at_one : (e : Ending) → exit_status e ≡ 1 → e ≡ Usage
at_one Usage s = refl
at_one Memory s = absurd (omega arith)
at_one (Stream e) s = absurd (s_one e s)
at_one (Follow e) s = absurd (f_one e s)
at_one (Sim e) s = absurd (m_one e s)
at_one (Load e) s = absurd (l_one e s)

pub at_zero : (e : Ending) → exit_status e ≡ 0 → (e ≡ Stream stream_end.Done) ⊎ ((e ≡ Follow follow_end.Done) ⊎ ((e ≡ Sim sim_end.Done) ⊎ (e ≡ Load load_end.Done)))
at_zero Usage s = absurd (omega arith)
at_zero Memory s = absurd (omega arith)
at_zero (Stream e) s = inl (ap (λ (x : StreamEnd). Stream x) (s_zero e s))
at_zero (Follow e) s = inr (inl (ap (λ (x : FollowEnd). Follow x) (f_zero e s)))
at_zero (Sim e) s = inr (inr (inl (ap (λ (x : SimEnd). Sim x) (sim_done e s))))
at_zero (Load e) s = inr (inr (inr (ap (λ (x : LoadEnd). Load x) (l_zero e s))))

pub at_three : (e : Ending) → exit_status e ≡ 3 → (e ≡ Stream stream_end.Read) ⊎ ((e ≡ Follow follow_end.Read) ⊎ (e ≡ Sim (sim_end.Stopped sim.Read)))
at_three Usage s = absurd (omega arith)
at_three Memory s = absurd (omega arith)
at_three (Stream e) s = inl (ap (λ (x : StreamEnd). Stream x) (s_three e s))
at_three (Follow e) s = inr (inl (ap (λ (x : FollowEnd). Follow x) (f_three e s)))
at_three (Sim e) s = inr (inr (ap (λ (x : SimEnd). Sim x) (m_three e s)))
at_three (Load e) s = absurd (l_three e s)

pub at_four : (e : Ending) → exit_status e ≡ 4 → (e ≡ Stream stream_end.Write) ⊎ ((e ≡ Follow follow_end.Write) ⊎ ((e ≡ Sim (sim_end.Stopped sim.Write)) ⊎ (e ≡ Load load_end.Write)))
at_four Usage s = absurd (omega arith)
at_four Memory s = absurd (omega arith)
at_four (Stream e) s = inl (ap (λ (x : StreamEnd). Stream x) (s_four e s))
at_four (Follow e) s = inr (inl (ap (λ (x : FollowEnd). Follow x) (f_four e s)))
at_four (Sim e) s = inr (inr (inl (ap (λ (x : SimEnd). Sim x) (m_four e s))))
at_four (Load e) s = inr (inr (inr (ap (λ (x : LoadEnd). Load x) (l_four e s))))

pub at_five : (e : Ending) → exit_status e ≡ 5 → (e ≡ Memory) ⊎ ((e ≡ Stream stream_end.Memory) ⊎ ((e ≡ Follow follow_end.Memory)
    ⊎ ((e ≡ Sim (sim_end.Stopped sim.NoMemory)) ⊎ (e ≡ Load load_end.Memory))))
at_five Usage s = absurd (omega arith)
at_five Memory s = inl refl
at_five (Stream e) s = inr (inl (ap (λ (x : StreamEnd). Stream x) (s_five e s)))
at_five (Follow e) s = inr (inr (inl (ap (λ (x : FollowEnd). Follow x) (f_five e s))))
at_five (Sim e) s = inr (inr (inr (inl (ap (λ (x : SimEnd). Sim x) (m_five e s)))))
at_five (Load e) s = inr (inr (inr (inr (ap (λ (x : LoadEnd). Load x) (l_five e s)))))

pub at_eight : (e : Ending) → exit_status e ≡ 8 → (e ≡ Stream (stream_end.Fault feed.TooMuch)) ⊎ ((e ≡ Follow (follow_end.Fault (stream.Wire wire.TooMuch))) ⊎ (e ≡ Sim (sim_end.Stopped sim.TooMuch)))
at_eight Usage s = absurd (omega arith)
at_eight Memory s = absurd (omega arith)
at_eight (Stream e) s = inl (ap (λ (x : StreamEnd). Stream x) (s_eight e s))
at_eight (Follow e) s = inr (inl (ap (λ (x : FollowEnd). Follow x) (f_eight e s)))
at_eight (Sim e) s = inr (inr (ap (λ (x : SimEnd). Sim x) (m_eight e s)))
at_eight (Load e) s = absurd (l_eight e s)

pub at_two : (e : Ending) → exit_status e ≡ 2 → ((f : IntakeFault) × (f ≢ feed.TooMuch) × (e ≡ Stream (stream_end.Fault f)))
    ⊎ ((f : SimFault) × (n : ℕ) × (script_line f ≡ Some n) × (e ≡ Sim (sim_end.Stopped f)))
at_two Usage s = absurd (omega arith)
at_two Memory s = absurd (omega arith)
at_two (Stream e) s = let r = s_two e s in inl (r.0, r.1, ap (λ (x : StreamEnd). Stream x) r.2)
at_two (Follow e) s = absurd (f_two e s)
at_two (Sim e) s = let r = m_two e s in inr (r.0, r.1, r.2, ap (λ (x : SimEnd). Sim x) r.3)
at_two (Load e) s = absurd (l_two e s)

pub at_six : (e : Ending) → exit_status e ≡ 6 → (f : StreamFault) × (f ≢ stream.Wire wire.TooMuch) × (e ≡ Follow (follow_end.Fault f))
at_six Usage s = absurd (omega arith)
at_six Memory s = absurd (omega arith)
at_six (Stream e) s = absurd (s_six e s)
at_six (Follow e) s = let r = f_six e s in (r.0, r.1, ap (λ (x : FollowEnd). Follow x) r.2)
at_six (Sim e) s = absurd (m_six e s)
at_six (Load e) s = absurd (l_six e s)

pub at_nine : (e : Ending) → exit_status e ≡ 9 → (left : ℕ) × (e ≡ Follow (follow_end.Cut left))
at_nine Usage s = absurd (omega arith)
at_nine Memory s = absurd (omega arith)
at_nine (Stream e) s = absurd (s_nine e s)
at_nine (Follow e) s = let r = f_nine e s in (r.0, ap (λ (x : FollowEnd). Follow x) r.1)
at_nine (Sim e) s = absurd (m_nine e s)
at_nine (Load e) s = absurd (l_nine e s)

-- no mode over a source and a sink has a door
no_door : (f : SimFault) → script_status f ≡ 7 → ⊥
no_door (sim.Event n) s = absurd (omega arith)
no_door (sim.Feed n f) s = absurd (omega arith)
no_door (sim.LongLine n) s = absurd (omega arith)
no_door sim.TooMuch s = absurd (omega arith)
no_door sim.Read s = absurd (omega arith)
no_door sim.Write s = absurd (omega arith)
no_door sim.NoMemory s = absurd (omega arith)

pub at_seven : (e : Ending) → exit_status e ≡ 7 → ⊥
at_seven Usage s = absurd (omega arith)
at_seven Memory s = absurd (omega arith)
at_seven (Stream stream_end.Done) s = absurd (omega arith)
at_seven (Stream stream_end.Read) s = absurd (omega arith)
at_seven (Stream stream_end.Write) s = absurd (omega arith)
at_seven (Stream stream_end.Memory) s = absurd (omega arith)
at_seven (Stream (stream_end.Fault f)) s = elim (feed_either f) [ inl p ↦ absurd (omega (arith, s, p.0)) | inr p ↦ absurd (omega (arith, s, p.0)) ]
at_seven (Follow follow_end.Done) s = absurd (omega arith)
at_seven (Follow follow_end.Read) s = absurd (omega arith)
at_seven (Follow follow_end.Write) s = absurd (omega arith)
at_seven (Follow follow_end.Memory) s = absurd (omega arith)
at_seven (Follow (follow_end.Cut left)) s = absurd (omega arith)
at_seven (Follow (follow_end.Fault f)) s = elim (fault_either f) [ inl p ↦ absurd (omega (arith, s, p.0)) | inr p ↦ absurd (omega (arith, s, p.0)) ]
at_seven (Sim sim_end.Done) s = absurd (omega arith)
at_seven (Sim (sim_end.Stopped f)) s = no_door f s
at_seven (Load load_end.Done) s = absurd (omega arith)
at_seven (Load load_end.Write) s = absurd (omega arith)
at_seven (Load load_end.Memory) s = absurd (omega arith)
