-- Reading whole texts.
use Rattle.std.proofs.Common.{◌≡◌, ℕ, ◌^◌, ◌<◌, ◌≤◌, Bool, true, false, cond, not, ◌&&◌, ◌==◌, nat_lt, nat_le, List, [], ◌∷◌, ◌++◌, length, map, decimal, Some, None, Result, Ok, Err, refl, sym, ap, subst, ◌∙◌, rules, true≢false, ◌≢◌}
use Rattle.std.specs.Prelude.{IfOk, IfErr}
use borrow.Author.Tests.{eqb-true, ltb-false, le-ltb}
use Rattle.std.specs.List.{list_all, flat_map, slice_split}
use Rattle.std.specs.Char.{is_ascii_digit}
use Rattle.std.specs.Str.{all_ascii_digits}
use Rattle.std.proofs.lemmas.Str.Parse.{IsNumeralModel, numerals_by_fold}
use Rattle.std.proofs.lemmas.Fmt.{digits_decimal}
use Rattle.ty_base.specs.Numbers.{value_after}
use Rattle.ty_base.specs.declared.limits.TheConstants.{KEY_BYTES}
use Rattle.ty_keys.specs.declared.key.Key.{Key}
use Rattle.ty_keys.specs.declared.key.Key.TheVariants.{Ready, Global, HostConfig, HostIp, HostEndpoint, Workload, Policy, ProfileRules, ProfileLabels, NetSet, Pool, Resource}
use Rattle.ty_keys.specs.declared.key.KeyFault.{KeyFault}
use Rattle.ty_keys.specs.declared.key.KeyFault.TheVariants.{TooLong, NoMemory}
use Rattle.ty_keys.specs.Faults.{segments, placed, fault_of, fault_in, is_slash, after_slash}
use Rattle.ty_keys.specs.Grammar.{Piece, Word, Part, Net, Plural, pieces, printed, slashed, is_piece, key_text, IsKey}
use Rattle.ty_keys.specs.Nets.{is_addr, is_addr_byte, is_net, longest, net_text}
use Rattle.ty_keys.specs.Forms.{Gives, read_key, read_segments}
use Rattle.ty_keys.proofs.Again.{all_again}
use Rattle.ty_keys.proofs.Cut.{text_back, segments_joined, flat_printed, placed_texts}
use Rattle.ty_keys.proofs.Named.{is_clear, named_by}
use Rattle.ty_keys.proofs.Networks.{len_small}
use Rattle.ty_keys.proofs.Sound.{Sound, Reads, all_sound, prints}
use Rattle.ty_keys.proofs.Units.{and_left, and_right, escaped_clear}

-- ---- no printed piece has a slash

clear_from : (p : ℕ → Bool) → p 47 ≡ false → (b : ℕ) → p b ≡ true → not (is_slash b) ≡ true
clear_from p n b h =
    elim (b == 47) as (λ v. (b == 47) ≡ v → not v ≡ true) [
      | true ↦ λ e. absurd (true≢false (sym (subst (λ (k : ℕ). p k ≡ true) (eqb-true b 47 e) h) ∙ n))
      | false ↦ λ e. refl
    ] refl

clear_bytes : (p : ℕ → Bool) → p 47 ≡ false → (s : List ℕ) → list_all p s ≡ true → is_clear s ≡ true
clear_bytes p n [] h = refl
clear_bytes p n (b ∷ s) h = ap (λ v. v && is_clear s) (clear_from p n b (and_left (p b) (list_all p s) h)) ∙ clear_bytes p n s (and_right (p b) (list_all p s) h)

clear_digits : (s : List ℕ) → all_ascii_digits s ≡ true → is_clear s ≡ true
clear_digits [] h = refl
clear_digits (b ∷ s) h = ap (λ v. v && is_clear s) (clear_from is_ascii_digit refl b (and_left (is_ascii_digit b) (all_ascii_digits s) h)) ∙ clear_digits s (and_right (is_ascii_digit b) (all_ascii_digits s) h)

clear_both : (s t : List ℕ) → is_clear s ≡ true → is_clear t ≡ true → is_clear (s ++ t) ≡ true
clear_both [] t h g = g
clear_both (b ∷ s) t h g = ap (λ v. v && is_clear (s ++ t)) (and_left (not (is_slash b)) (is_clear s) h) ∙ clear_both s t (and_right (not (is_slash b)) (is_clear s) h) g

digits : IsNumeralModel (λ ds. all_ascii_digits ds ≡ true) (value_after 0)
digits = numerals_by_fold _ (search rules) value_after (search rules)

net_clear : (v6 : Bool) (a : List ℕ) (n : ℕ) → is_net v6 a n ≡ true → is_clear (net_text a n) ≡ true
net_clear v6 a n h =
    let all : list_all is_addr_byte a ≡ true = and_right (nat_lt 0 (length a) && nat_le (length a) 45) (list_all is_addr_byte a) (and_left (is_addr a) (nat_le n (longest v6)) h) in
    let small : n < 2 ^ 64 = len_small v6 n (and_right (is_addr a) (nat_le n (longest v6)) h) in
    clear_both a (45 ∷ decimal n) (clear_bytes is_addr_byte refl a all) (clear_digits (decimal n) (digits_decimal digits n small))

abbrev word_clear : Piece → Bool
word_clear (Word w) = is_clear w
word_clear (Part p) = true
word_clear (Net v6 a n) = true
word_clear (Plural n p) = true

words_clear : (k : Key) → list_all word_clear (pieces k) ≡ true
words_clear Ready = refl
words_clear (Global name) = refl
words_clear (HostConfig host name) = refl
words_clear (HostIp host) = refl
words_clear (HostEndpoint host endpoint) = refl
words_clear (Workload host orchestrator workload endpoint) = refl
words_clear (Policy tier policy) = refl
words_clear (ProfileRules profile) = refl
words_clear (ProfileLabels profile) = refl
words_clear (NetSet name) = refl
words_clear (Pool false addr len) = refl
words_clear (Pool true addr len) = refl
words_clear (Resource plural None name) = refl
words_clear (Resource plural (Some space) name) = refl

piece_clear : (p : Piece) → word_clear p ≡ true → is_piece p ≡ true → is_clear (printed p) ≡ true
piece_clear (Word w) h g = h
piece_clear (Part p) h g = escaped_clear p
piece_clear (Net v6 a n) h g = net_clear v6 a n g
piece_clear (Plural n p) h g = (named_by n p g).clear

all_clear : (ps : List Piece) → list_all word_clear ps ≡ true → list_all is_piece ps ≡ true → list_all is_clear (map printed ps) ≡ true
all_clear [] h g = refl
all_clear (p ∷ ps) h g =
    ap (λ v. v && list_all is_clear (map printed ps)) (piece_clear p (and_left (word_clear p) (list_all word_clear ps) h) (and_left (is_piece p) (list_all is_piece ps) g))
    ∙ all_clear ps (and_right (word_clear p) (list_all word_clear ps) h) (and_right (is_piece p) (list_all is_piece ps) g)

-- ---- every key's text is read as that key

pub key_again : (k : Key) → IsKey k → read_key (key_text k) ≡ Ok k
unfolding read_key key_text
key_again k h =
    ap (λ v. cond v (Err TooLong) (read_segments (segments 0 (key_text k)))) (le-ltb KEY_BYTES (length (key_text k)) h.short)
    ∙ ap (λ t. read_segments (segments 0 t)) (flat_printed (pieces k))
    ∙ ap read_segments (segments_joined 0 (prints k) (all_clear (pieces k) (words_clear k) h.pieces))
    ∙ all_again 0 k h.pieces

-- ---- and nothing else is

nothing_read : (k : Key) → read_segments [] ≡ Ok k → ⊥
unfolding read_segments
nothing_read k h = cc

text_is : (text : List ℕ) (parts : List (List ℕ)) → after_slash (slice_split is_slash text) ≡ parts → (parts ≡ [] → ⊥) → text ≡ flat_map slashed parts
text_is text [] e n = absurd (n refl)
text_is text (s ∷ ss) e n = text_back text s ss e

pub record Read (text : List ℕ) (k : Key) : Type 0 where
  pub key : IsKey k
  pub is_text : text ≡ key_text k
  pub clean : fault_of text ≡ None

segments_take : (text : List ℕ) (k : Key) → nat_lt KEY_BYTES (length text) ≡ false → read_segments (segments 0 text) ≡ Ok k → Read text k
unfolding segments fault_of key_text
segments_take text k e h =
    let parts : List (List ℕ) = after_slash (slice_split is_slash text) in
    let r : Reads (segments 0 text) k = subst (Sound (segments 0 text)) h (all_sound (segments 0 text)) in
    let is : text ≡ key_text k =
    text_is text parts refl (λ z. nothing_read k (sym (ap (λ (ps : List (List ℕ)). read_segments (placed 0 ps)) z) ∙ h))
    ∙ ap (flat_map slashed) (sym (r.text ∙ placed_texts 0 parts)) ∙ sym (flat_printed (pieces k)) in
    record {
      key = record { pieces = r.pieces; short = let P : List ℕ → Type 0 = λ t. length t ≤ KEY_BYTES in subst P is (ltb-false KEY_BYTES (length text) e) };
      is_text = is;
      clean = ap (λ v. cond v (Some TooLong) (fault_in (segments 0 text))) e ∙ r.clean;
    }

pub key_takes : (text : List ℕ) (k : Key) → read_key text ≡ Ok k → Read text k
unfolding read_key
key_takes text k h =
    elim (nat_lt KEY_BYTES (length text)) as (λ v. nat_lt KEY_BYTES (length text) ≡ v → cond v (Err TooLong) (read_segments (segments 0 text)) ≡ Ok k → Read text k) [
      | true ↦ λ e g. absurd cc
      | false ↦ λ e g. segments_take text k e g
    ] refl h

pub key_fails : (text : List ℕ) (f : KeyFault) → read_key text ≡ Err f → fault_of text ≡ Some f
unfolding read_key fault_of
key_fails text f h =
    elim (nat_lt KEY_BYTES (length text)) as (λ v. cond v (Err TooLong) (read_segments (segments 0 text)) ≡ Err f → cond v (Some TooLong) (fault_in (segments 0 text)) ≡ Some f) [
      | true ↦ λ g. cc
      | false ↦ λ g. subst (Sound (segments 0 text)) g (all_sound (segments 0 text))
    ] h

-- ---- as the contract of reading says it

abbrev same : Key → Key
same k = k

pub found_from : (text : List ℕ) (r : Result Key KeyFault) → Gives same r (read_key text) → IfOk r (λ k. IsKey k × (text ≡ key_text k))
found_from text (Ok k) g = let t = key_takes text k g in (t.key, t.is_text)
found_from text (Err f) g = tt

pub clean_from : (text : List ℕ) (r : Result Key KeyFault) → Gives same r (read_key text) → IfOk r (λ _. fault_of text ≡ None)
clean_from text (Ok k) g = (key_takes text k g).clean
clean_from text (Err f) g = tt

pub fault_from : (text : List ℕ) (r : Result Key KeyFault) → Gives same r (read_key text) → IfErr r (λ f. f ≢ NoMemory → fault_of text ≡ Some f)
fault_from text (Ok k) g = tt
fault_from text (Err f) g = λ n. key_fails text f (g n)

pub only_from : (text : List ℕ) (k : Key) (r : Result Key KeyFault) → IsKey k → text ≡ key_text k → Gives same r (read_key text) → Gives same r (Ok k)
only_from text k r h e g = subst (Gives same r) (ap read_key e ∙ key_again k h) g
