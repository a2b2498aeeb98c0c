-- Which fault a text has, and at which byte.
use Rattle.std.specs.Prelude.{ℕ, ◌+◌, Bool, true, false, ◌&&◌, ◌||◌, ◌==◌, nat_lt, is_some, List, [], ◌∷◌, length, Option, None, Some, if◌then◌else◌}
use Rattle.std.specs.List.{find, slice_split}
use Rattle.std.specs.Str.{bytes_eq}
use Rattle.ty_base.specs.declared.limits.TheConstants.{KEY_BYTES}
use Rattle.ty_keys.specs.declared.key.Key.{Key}
use Rattle.ty_keys.specs.declared.key.Key.TheVariants.{Ready, Global, HostConfig, HostIp, HostEndpoint, Workload, Policy, ProfileRules, ProfileLabels, NetSet, Pool, Resource}
use Rattle.ty_keys.specs.declared.key.KeyFault.{KeyFault}
use Rattle.ty_keys.specs.declared.key.KeyFault.TheVariants.{TooLong, NoForm, EmptyPart, BadByte, BadEscape}
use Rattle.ty_keys.specs.Grammar.{Piece, Word, Part, Net, Plural, pieces, is_plain}
use Rattle.ty_keys.specs.Nets.{net_of}
use Rattle.ty_keys.specs.Plurals.{is_plural}

-- a segment and the place of its first byte in the text
abbrev pub Segment : Type 0
Segment = ℕ × List ℕ

abbrev pub is_slash : ℕ → Bool
is_slash b = b == 47

-- where the segments stand, the slash of the first standing at this place
abbrev pub placed : ℕ → List (List ℕ) → List Segment
placed at [] = []
placed at (s ∷ ss) = (at + 1, s) ∷ placed (at + 1 + length s) ss

-- what is cut off at slashes, where nothing stands before the first of them; else nothing
abbrev pub after_slash : List (List ℕ) → List (List ℕ)
after_slash [] = []
after_slash ([] ∷ ss) = ss
after_slash ((b ∷ bs) ∷ ss) = []

-- the segments of a text whose first byte stands at this place
unfoldable pub segments : ℕ → List ℕ → List Segment
segments at text = placed at (after_slash (slice_split is_slash text))

-- Forms

-- a key of each form, of which only the form matters
abbrev pub each_form : List Key
each_form =
    Ready ∷ Global [] ∷ HostConfig [] [] ∷ HostIp [] ∷ HostEndpoint [] [] ∷ Workload [] [] [] [] ∷ Policy [] [] ∷
    ProfileRules [] ∷ ProfileLabels [] ∷ NetSet [] ∷ Pool false [] 0 ∷ Pool true [] 0 ∷ Resource [] None [] ∷ Resource [] (Some []) [] ∷ []

-- the segment may stand where such a piece stands in a form
abbrev pub fits_at : Piece → Segment → Bool
fits_at (Word w) s = bytes_eq s.1 w
fits_at (Part p) s = true
fits_at (Net v6 addr len) s = is_some (net_of v6 s.1)
fits_at (Plural namespaced plural) s = is_plural namespaced s.1

abbrev pub fits : List Piece → List Segment → Bool
fits [] [] = true
fits [] (s ∷ ss) = false
fits (p ∷ ps) [] = false
fits (p ∷ ps) (s ∷ ss) = fits_at p s && fits ps ss

abbrev pub form_of : List Segment → Option Key
form_of ss = find (λ k. fits (pieces k) ss) each_form

-- Parts

-- 25 or 2f, which follow a % in its two escapes
abbrev pub is_code : List ℕ → Bool
is_code [] = false
is_code (b ∷ []) = false
is_code (b ∷ c ∷ bs) = (b == 50) && ((c == 53) || (c == 102))

-- the first fault of a segment's bytes, the first of which stands at this place; no segment has a slash
unfoldable pub byte_fault : ℕ → List ℕ → Option KeyFault
byte_fault at [] = None
byte_fault at (b ∷ bs) =
    if b == 37 then (if is_code bs then byte_fault (at + 1) bs else Some (BadEscape at))
    else (if is_plain b then byte_fault (at + 1) bs else Some (BadByte at))

abbrev pub part_fault : Segment → Option KeyFault
part_fault s = if length s.1 == 0 then Some (EmptyPart s.0) else byte_fault s.0 s.1

-- the first fault, or else the other
abbrev pub or_else : Option KeyFault → Option KeyFault → Option KeyFault
or_else (Some f) other = Some f
or_else None other = other

abbrev pub fault_at : Piece → Segment → Option KeyFault
fault_at (Part p) s = part_fault s
fault_at p s = None

-- the leftmost fault of the parts of a form
abbrev pub first_fault : List Piece → List Segment → Option KeyFault
first_fault [] ss = None
first_fault (p ∷ ps) [] = None
first_fault (p ∷ ps) (s ∷ ss) = or_else (fault_at p s) (first_fault ps ss)

abbrev pub fault_in_form : Option Key → List Segment → Option KeyFault
fault_in_form None ss = Some NoForm
fault_in_form (Some k) ss = first_fault (pieces k) ss

abbrev pub fault_in : List Segment → Option KeyFault
fault_in ss = fault_in_form (form_of ss) ss

-- the fault of a text, if it has one
unfoldable pub fault_of : List ℕ → Option KeyFault
fault_of text = if nat_lt KEY_BYTES (length text) then Some TooLong else fault_in (segments 0 text)
