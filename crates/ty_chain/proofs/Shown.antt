-- Breadcrumbs that stand for prefixes of one list.
use Rattle.std.proofs.Common.{◌≡◌, ◌≢◌, MatchBool, Bool, true, false, nat_eq, length, refl, ap, sym, ◌∙◌, arith}
use Rattle.std.proofs.lemmas.Bool.Decides.{nat_tests}
use mathlib.Core.List.{IsPrefix}
use Rattle.ty_base.specs.Feed.{replay}
use Rattle.ty_account.specs.Known.{Known, KnowsMore}
use Rattle.ty_account.proofs.Prefixes.{prefix_trans, prefix_shorter, prefix_whole}
use Rattle.ty_crumb.specs.declared.crumb.Crumb.{Crumb}
use Rattle.ty_crumb.specs.Crumbs.{last_cut, last_deltas}
use Rattle.ty_chain.specs.Shown.{Within}
use Rattle.ty_chain.specs.Following.{Alike}

-- a breadcrumb that stands for a prefix of what is known does so of whatever more is known
pub within_more : (crumb : Crumb) (p q : Known) → KnowsMore p q → Within crumb p → Within crumb q
within_more crumb p q more within = record { entries = within.entries; begins = prefix_trans within.entries p.entries q.entries within.begins more.begins; stands = within.stands }

-- two breadcrumbs of one number, each of one list, say the same
pub alike : (one two : Crumb) (known : Known) → Within one known → Within two known → one.number ≡ two.number → Alike one two
alike one two known a b same =
    let long : length a.entries ≡ length b.entries = omega (arith, a.stands.number, b.stands.number, same) in
    let begins : IsPrefix a.entries b.entries = prefix_shorter a.entries b.entries known.entries a.begins b.begins (omega (arith, long)) in
    let equal : a.entries ≡ b.entries = prefix_whole a.entries b.entries begins (omega (arith, long)) in
    record {
      number = same;
      cut = a.stands.cut ∙ (ap last_cut equal ∙ sym b.stands.cut);
      deltas = a.stands.deltas ∙ (ap last_deltas equal ∙ sym b.stands.deltas);
      world = a.stands.world ∙ (ap replay equal ∙ sym b.stands.world);
    }

-- whether they are of one number tells whether they say the same
pub agrees : (one two : Crumb) (known : Known) → Within one known → Within two known → MatchBool (nat_eq one.number two.number) (Alike one two) (one.number ≢ two.number)
agrees one two known a b = by (nat_eq one.number two.number) refl where
  by : (same : Bool) → nat_eq one.number two.number ≡ same → MatchBool same (Alike one two) (one.number ≢ two.number)
  by true is = alike one two known a b (grind (arith, nat_tests))
  by false is = λ same. absurd (grind (arith, nat_tests))

pub knows_trans : (p q r : Known) → KnowsMore p q → KnowsMore q r → KnowsMore p r
knows_trans p q r a b = record {
  account = b.account ∙ a.account;
  begins = prefix_trans p.entries q.entries r.entries a.begins b.begins;
  ends = λ closed. let now = a.ends closed in let later = b.ends now.1 in (later.0 ∙ now.0, later.1);
}
