-- The keys and values of a feed's items are within the limits, and UTF-8.
use Rattle.std.proofs.Common.{◌≡◌, ℕ, true, List, [], ◌∷◌, codes, refl, subst}
use Rattle.std.specs.Prelude.{Option, None, Some, option_map, option_and_then}
use Rattle.std.specs.List.{filter_map, cons_option, take_while}
use Rattle.std.specs.Str.{IsUtf8, is_utf8}
use Rattle.std.proofs.lemmas.Str.{IsUtf8-from_is_utf8}
use Rattle.serde_json.specs.Data.{Data}
use Rattle.serde_json.specs.Read.{read}
use Rattle.serde_json.specs.Find.{get, as_str}
use Rattle.ty_base.specs.declared.item.Item.{Item}
use Rattle.ty_base.specs.declared.status.Status.{Status}
use Rattle.ty_base.specs.Limits.{is_small, AreSmall}
use Rattle.ty_base.specs.Statuses.{status_of}
use Rattle.ty_base.proofs.Passing.{both}
use Rattle.ty_values.specs.Items.{Said, update, status, blank, item_of}
use Rattle.ty_values.proofs.SmallItems.{update_small}
use Rattle.ty_intake.specs.Lines.{Feed, lines_of, is_blank_line}
use Rattle.ty_intake.specs.Line.{is_absent_or_text, update_in, status_said, by_members, said_in, said_by_json, said_by, item_by}
use Rattle.ty_intake.specs.Batches.{is_good, items_of}
use Rattle.ty_intake.proofs.JsonTokens.{not_there, the_same, was_there, either_way}
use Rattle.ty_intake.proofs.JsonValues.{DataUtf8, read_utf8, get_utf8, text_utf8, compact_utf8}

-- The texts of what a line says

abbrev SaidUtf8 : Said → Type 0
SaidUtf8 (update key value) = IsUtf8 key × ((d : Data) → value ≡ Some d → DataUtf8 d)
SaidUtf8 (status s) = Unit {0}
SaidUtf8 blank = Unit {0}

update_utf8 : (key : List ℕ) (line : Data) (s : Said) → IsUtf8 key → DataUtf8 line → update_in key line ≡ Some s → SaidUtf8 s
update_utf8 key line s k h e =
    either_way (is_absent_or_text (get (codes "revision") line)) (Some (update key (get (codes "value") line))) None (Some s)
    (λ _ x. subst SaidUtf8 (the_same (update key (get (codes "value") line)) s x) (k, λ d y. get_utf8 (codes "value") line d h y))
    (λ _ x. not_there s x) e

status_utf8 : (d : Data) (s : Said) → status_said d ≡ Some s → SaidUtf8 s
status_utf8 d s e = named (option_and_then status_of (as_str d)) e
  where
    named : (o : Option Status) → option_map status o ≡ Some s → SaidUtf8 s
    named None x = not_there s x
    named (Some t) x = subst SaidUtf8 (the_same (status t) s x) tt

members_say : (k t : Option Data) (line : Data) (s : Said) → ((d : Data) → k ≡ Some d → DataUtf8 d) → DataUtf8 line → by_members k t line ≡ Some s → SaidUtf8 s
members_say None None line s f h e = not_there s e
members_say None (Some t) line s f h e = status_utf8 t s e
members_say (Some k) None line s f h e =
    let r = was_there (as_str k) (λ key. update_in key line) s e in
    update_utf8 r.0 line s (text_utf8 k r.0 (f k refl) r.1) h r.2
members_say (Some k) (Some t) line s f h e = not_there s e

said_utf8 : (line : List ℕ) (s : Said) → said_by line ≡ Some s → SaidUtf8 s
unfolding said_by said_by_json said_in
said_utf8 line s e =
    either_way (is_blank_line line) (Some blank) _ (Some s)
    (λ _ x. subst SaidUtf8 (the_same blank s x) tt)
    (λ _ x. either_way (is_utf8 line) (option_and_then said_in (read line)) None (Some s)
    (λ u y.
    let r = was_there (read line) said_in s y in
    let all : DataUtf8 r.0 = read_utf8 line r.0 (IsUtf8-from_is_utf8 line u) r.1 in
    members_say (get (codes "key") r.0) (get (codes "status") r.0) r.0 s (λ d z. get_utf8 (codes "key") r.0 d all z) all r.2)
    (λ _ y. not_there s y) x)
    e

-- The items

abbrev IsSmall : Item → Type 0
IsSmall x = is_small x ≡ true

said_small : (s : Said) (x : Item) → SaidUtf8 s → item_of s ≡ Some x → IsSmall x
said_small (update key value) x h e = update_small key value x h.0 (λ d y. compact_utf8 d (h.1 d y)) e
said_small (status s) x h e = subst IsSmall (the_same _ x e) refl
said_small blank x h e = subst IsSmall (the_same _ x e) refl

line_small : (line : List ℕ) (x : Item) → item_by line ≡ Some x → IsSmall x
unfolding item_by
line_small line x e =
    let r = was_there (said_by line) item_of x e in
    said_small r.0 x (said_utf8 line r.0 r.1) r.2

with_item : (l : List ℕ) (o : Option Item) (rest : List Item) → item_by l ≡ o → AreSmall rest → AreSmall (cons_option o rest)
with_item l None rest e h = h
with_item l (Some x) rest e h = both (line_small l x e) h

lines_small : (lines : List (List ℕ)) → AreSmall (filter_map item_by lines)
lines_small [] = refl
lines_small (l ∷ ls) = with_item l (item_by l) (filter_map item_by ls) refl (lines_small ls)

pub items_small : (feed : Feed) → AreSmall (items_of feed)
unfolding items_of
items_small feed = lines_small (take_while is_good (lines_of feed))
