-- Which rule a message asks the bus for: a call of AddMatch the one of the table that its text spells; whatever is no call of the bus's members, none.
use Rattle.std.proofs.Common.{◌≡◌, ℕ, Bool, true, false, List, [], ◌∷◌, refl, sym, ◌∙◌, subst}
use Rattle.std.specs.Prelude.{Result, Ok, Err, ◌&&◌, filter, codes, if◌then◌else◌}
use Rattle.std.specs.List.{AllByRecursion, list_any}
use Rattle.atspi_message.specs.Envelope.{Envelope}
use Rattle.atspi_protocol.specs.ends.Messages.{Reply, returns, fails, reply_to, replies, expects_reply}
use Rattle.atspi_match.specs.declared.routing.member.BusMember.{BusMember}
use Rattle.atspi_match.specs.declared.routing.member.BusMember.TheVariants.{AddMatch, RemoveMatch}
use Rattle.atspi_match.specs.routing.Members.{member_lines, is_of, is_text, first_line, with_arguments, member_of}
use Rattle.atspi_bus_steps.specs.Spoken.{IsRuleOf, IsRuleNamed}
use Rattle.atspi_trace.specs.Rules.{rule_in}

-- it asks for a rule of the table, or for none
abbrev pub AsksTruly : Envelope → Type 0
AsksTruly m = IsRuleNamed m (rule_in m)

-- what is no call asks for none
pub uncalled_asks : (m : Envelope) (kind : ℕ) → m.kind ≡ kind → (kind ≡ 1 → ⊥) → AsksTruly m
uncalled_asks m kind is other = λ for_bus one. absurd (other (sym is ∙ one))

-- nor does a call of an interface that the bus does not have
no_member : (m : Envelope) (member : BusMember) → list_any (is_of m.interface) member_lines ≡ false → member_of m ≡ Ok member → ⊥
no_member m member none is = by (list_any (is_of m.interface) member_lines) none is
  where
    by : (b : Bool) → b ≡ false
        → (if b then with_arguments m (first_line (filter (λ l. is_of m.interface l && is_text m.member l.name) member_lines)) else Err (codes "UnknownInterface")) ≡ Ok member → ⊥
    by true n i = let clash : true ≡ false = n in cc
    by false n i = cc

pub foreign_asks : (m : Envelope) → list_any (is_of m.interface) member_lines ≡ false → AsksTruly m
foreign_asks m none = λ for_bus one member is. absurd (no_member m member none is)

-- nor does a call of a member that speaks of none
abbrev pub speaks_of_none : BusMember → Bool
speaks_of_none AddMatch = false
speaks_of_none RemoveMatch = false
speaks_of_none member = true

pub plain_asks : (m : Envelope) (member : BusMember) → member_of m ≡ Ok member → speaks_of_none member ≡ true → AsksTruly m
plain_asks m member is plain = λ for_bus one. rule
  where
    same : (x y : BusMember) → ◌≡◌ {A = Result BusMember (List ℕ)} (Ok x) (Ok y) → x ≡ y
    same x y h = cc

    so_is : (x : BusMember) → member_of m ≡ Ok x → speaks_of_none x ≡ true
    so_is x h = subst (λ y. speaks_of_none y ≡ true) (same member x (sym is ∙ h)) plain

    clash : false ≡ true → ⊥
    clash h = cc

    rule : IsRuleOf m (rule_in m)
    rule AddMatch h = absurd (clash (so_is AddMatch h))
    rule RemoveMatch h = absurd (clash (so_is RemoveMatch h))
    rule _ h = tt

-- a call of AddMatch is none of RemoveMatch
pub no_removal : ◌≡◌ {A = Result BusMember (List ℕ)} (Ok AddMatch) (Ok RemoveMatch) → ⊥
no_removal h = cc

-- replies ask for none
pub replies_ask : (caller : List ℕ) (call : Envelope) (reply : Reply) → AllByRecursion AsksTruly (replies caller call reply)
replies_ask caller call reply = by (expects_reply call)
  where
    one : (r : Reply) → AsksTruly (reply_to caller call.serial r)
    one (returns values) = uncalled_asks (reply_to caller call.serial (returns values)) 2 refl (λ is. cc)
    one (fails word) = uncalled_asks (reply_to caller call.serial (fails word)) 3 refl (λ is. cc)

    by : (b : Bool) → AllByRecursion AsksTruly (if b then reply_to caller call.serial reply ∷ [] else [])
    by true = (one reply, tt)
    by false = tt

-- one of two
pub either_way : {X : Type 0} (P : X → Type 0) (b : Bool) (x y : X) → P x → P y → P (if b then x else y)
either_way P true x y p q = p
either_way P false x y p q = q
