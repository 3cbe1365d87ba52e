-- A word in front is cut off in one way, and says one thing.
use Rattle.std.proofs.Common.{◌≡◌, ℕ, ◌<◌, ◌^◌, Bool, true, false, List, [], ◌∷◌, ◌++◌, length, get_or, refl, sym, ap, subst, ◌∙◌, arith}
use Rattle.std.specs.Prelude.{codes}
use Rattle.std.specs.Char.{is_ascii_digit}
use Rattle.std.proofs.lemmas.Bool.{false≢true}
use Rattle.std.specs.Fmt.{decimal}
use Rattle.std.specs.Prelude.{encode_utf8_all}
use Rattle.atspi_base.specs.Quoted.{in_quotes, quoted}
use Rattle.atspi_script_lines.specs.Forms.{way_word}
use Rattle.atspi_script_lines.specs.declared.limits.TheConstants.{APP_COUNT, READER_COUNT, PLACE_LIMIT, QUOTA_LEAST, QUOTA_MOST}
use Rattle.atspi_script_lines.specs.declared.line.Party.{Party}
use Rattle.atspi_script_lines.specs.declared.line.Party.TheVariants.{Bus, Registry, App, Reader}
use Rattle.atspi_script_lines.specs.Words.{Word, literal, number, place, quota, app_name, reader_name, party_name, role_name, state_name, quote, IsBehind, Leads, SpellsParty, SpellsWord, SpellsWords}
use Rattle.atspi_script_lines.specs.inner.Reading.{HasNoSpace, IsTextOf, LeadAll}
use Rattle.atspi_script_lines.proofs.SpaceLemmas.{one_cut, tested_no_space}
use Rattle.atspi_script_lines.proofs.NumberLemmas.{decimal_no_space, digits_begin, number_once, role_no_space, role_once, state_no_space, state_once}
use Rattle.atspi_script_lines.proofs.QuoteLemmas.{quoted_once, quotes_once}

-- a word that is spelled without a space
abbrev pub IsFree : Word → Type 0
IsFree (literal word) = HasNoSpace word
IsFree (quote text) = ⊥
IsFree _ = Unit {0}

party_free : (who : Party) (bytes : List ℕ) → SpellsParty who bytes → HasNoSpace bytes
party_free Bus bytes s = absurd s
party_free Registry bytes s = subst HasNoSpace (sym s) (tested_no_space (codes "reg") refl)
party_free (App a) bytes s = subst HasNoSpace (sym s.1) (λ e. omega (arith, e), decimal_no_space a (omega (arith, s.0)))
party_free (Reader r) bytes s = subst HasNoSpace (sym s.1) (λ e. omega (arith, e), decimal_no_space r (omega (arith, s.0)))

pub spelling_free : (word : Word) (bytes : List ℕ) → IsFree word → SpellsWord word bytes → HasNoSpace bytes
spelling_free (literal w) bytes f s = subst HasNoSpace (sym s) f
spelling_free (number n) bytes f s = subst HasNoSpace (sym s.1) (decimal_no_space n s.0)
spelling_free (place n) bytes f s = subst HasNoSpace (sym s.1) (decimal_no_space n (omega (arith, s.0)))
spelling_free (quota n) bytes f s = subst HasNoSpace (sym s.2) (decimal_no_space n (omega (arith, s.1)))
spelling_free (app_name a) bytes f s = party_free (App a) bytes s
spelling_free (reader_name r) bytes f s = party_free (Reader r) bytes s
spelling_free (party_name who) bytes f s = party_free who bytes s
spelling_free (role_name r) bytes f s = role_no_space r bytes s
spelling_free (state_name t) bytes f s = state_no_space t bytes s
spelling_free (quote text) bytes f s = absurd f

-- two words without spaces in front: their spellings and what follows are the same
pub lead_cut : (w v : Word) (r s bytes : List ℕ) → IsFree w → IsFree v → (p : Leads w r bytes) → (q : Leads v s bytes) → (p.spelling ≡ q.spelling) × (r ≡ s)
lead_cut w v r s bytes f g p q =
    let e : p.spelling ++ r ≡ q.spelling ++ s = cc (p.front, q.front) in
    one_cut p.spelling q.spelling r s (spelling_free w p.spelling f p.spelled) (spelling_free v q.spelling g q.spelled) p.behind q.behind e

-- a word that was read, as a word that says something
pub word_is : (word rest more bytes : List ℕ) (v : Word) → HasNoSpace word → IsFree v → Leads (literal word) rest bytes → Leads v more bytes → SpellsWord v word
word_is word rest more bytes v f g p q =
    let cut = lead_cut (literal word) v rest more bytes f g p q in
    subst (SpellsWord v) (sym cut.0 ∙ p.spelled) q.spelled

pub led : (word rest bytes : List ℕ) (v : Word) → SpellsWord v word → Leads (literal word) rest bytes → Leads v rest bytes
led word rest bytes v s p = record { spelling = p.spelling; spelled = subst (SpellsWord v) (sym p.spelled) s; front = p.front; behind = p.behind }

-- a word that names no end
pub no_party : (word : List ℕ) → (word ≡ codes "reg" → ⊥) → ((a : ℕ) → a < APP_COUNT → word ≡ 97 ∷ decimal a → ⊥) → ((r : ℕ) → r < READER_COUNT → word ≡ 114 ∷ decimal r → ⊥)
    → (who : Party) → SpellsParty who word → ⊥
no_party word reg app reader Bus s = s
no_party word reg app reader Registry s = reg s
no_party word reg app reader (App a) s = app a s.0 s.1
no_party word reg app reader (Reader r) s = reader r s.0 s.1

-- words of one kind
abbrev pub AreAlike : Word → Word → Type 0
AreAlike (literal w) (literal v) = HasNoSpace w × HasNoSpace v
AreAlike (number m) (number n) = Unit {0}
AreAlike (place m) (place n) = Unit {0}
AreAlike (quota m) (quota n) = Unit {0}
AreAlike (app_name a) (app_name b) = Unit {0}
AreAlike (reader_name a) (reader_name b) = Unit {0}
AreAlike (party_name a) (party_name b) = Unit {0}
AreAlike (role_name a) (role_name b) = Unit {0}
AreAlike (state_name a) (state_name b) = Unit {0}
AreAlike (quote x) (quote y) = Unit {0}
AreAlike _ _ = ⊥

end_once : (a b m n : ℕ) (bytes : List ℕ) → m < 2 ^ 32 → n < 2 ^ 32 → bytes ≡ a ∷ decimal m → bytes ≡ b ∷ decimal n → (a ≡ b) × (m ≡ n)
end_once a b m n bytes p q e f =
    let d : decimal m ≡ decimal n = cc in
    let h : a ≡ b = cc in
    (h, number_once m n p q d)

no_reg : (n : ℕ) → n < 2 ^ 32 → codes "reg" ≡ 114 ∷ decimal n → ⊥
no_reg n small e =
    let d : decimal n ≡ 101 ∷ 103 ∷ [] = cc in
    false≢true (subst (λ w. is_ascii_digit (get_or w 0 0) ≡ true) d (digits_begin n small))

party_once : (a b : Party) (bytes : List ℕ) → SpellsParty a bytes → SpellsParty b bytes → a ≡ b
party_once Bus b bytes s t = absurd s
party_once a Bus bytes s t = absurd t
party_once Registry Registry bytes s t = refl
party_once (App a) (App b) bytes s t = ap App (end_once 97 97 a b bytes (omega (arith, s.0)) (omega (arith, t.0)) s.1 t.1).1
party_once (Reader a) (Reader b) bytes s t = ap Reader (end_once 114 114 a b bytes (omega (arith, s.0)) (omega (arith, t.0)) s.1 t.1).1
party_once (App a) (Reader b) bytes s t = let h : ◌≡◌ {A = ℕ} 97 114 = (end_once 97 114 a b bytes (omega (arith, s.0)) (omega (arith, t.0)) s.1 t.1).0 in absurd (omega (arith, h))
party_once (Reader a) (App b) bytes s t = let h : ◌≡◌ {A = ℕ} 114 97 = (end_once 114 97 a b bytes (omega (arith, s.0)) (omega (arith, t.0)) s.1 t.1).0 in absurd (omega (arith, h))
party_once Registry (App b) bytes s t = let h : ◌≡◌ {A = ℕ} 114 97 = cc (s, t.1) in absurd (omega (arith, h))
party_once (App a) Registry bytes s t = let h : ◌≡◌ {A = ℕ} 114 97 = cc (t, s.1) in absurd (omega (arith, h))
party_once Registry (Reader b) bytes s t = absurd (no_reg b (omega (arith, t.0)) (sym s ∙ t.1))
party_once (Reader a) Registry bytes s t = absurd (no_reg a (omega (arith, s.0)) (sym t ∙ s.1))

-- a word in front says one thing, and one thing follows it
pub lead_once : (w v : Word) (r s bytes : List ℕ) → AreAlike w v → Leads w r bytes → Leads v s bytes → (w ≡ v) × (r ≡ s)
lead_once (literal w) (literal v) r s bytes k p q =
    let c = lead_cut (literal w) (literal v) r s bytes k.0 k.1 p q in
    (ap literal (sym p.spelled ∙ c.0 ∙ q.spelled), c.1)
lead_once (number m) (number n) r s bytes k p q =
    let c = lead_cut (number m) (number n) r s bytes tt tt p q in
    (ap number (number_once m n p.spelled.0 q.spelled.0 (sym p.spelled.1 ∙ c.0 ∙ q.spelled.1)), c.1)
lead_once (place m) (place n) r s bytes k p q =
    let c = lead_cut (place m) (place n) r s bytes tt tt p q in
    (ap place (number_once m n (omega (arith, p.spelled.0)) (omega (arith, q.spelled.0)) (sym p.spelled.1 ∙ c.0 ∙ q.spelled.1)), c.1)
lead_once (quota m) (quota n) r s bytes k p q =
    let c = lead_cut (quota m) (quota n) r s bytes tt tt p q in
    (ap quota (number_once m n (omega (arith, p.spelled.1)) (omega (arith, q.spelled.1)) (sym p.spelled.2 ∙ c.0 ∙ q.spelled.2)), c.1)
lead_once (app_name a) (app_name b) r s bytes k p q =
    let c = lead_cut (app_name a) (app_name b) r s bytes tt tt p q in
    (ap app_name (end_once 97 97 a b p.spelling (omega (arith, p.spelled.0)) (omega (arith, q.spelled.0)) p.spelled.1 (c.0 ∙ q.spelled.1)).1, c.1)
lead_once (reader_name a) (reader_name b) r s bytes k p q =
    let c = lead_cut (reader_name a) (reader_name b) r s bytes tt tt p q in
    (ap reader_name (end_once 114 114 a b p.spelling (omega (arith, p.spelled.0)) (omega (arith, q.spelled.0)) p.spelled.1 (c.0 ∙ q.spelled.1)).1, c.1)
lead_once (party_name a) (party_name b) r s bytes k p q =
    let c = lead_cut (party_name a) (party_name b) r s bytes tt tt p q in
    (ap party_name (party_once a b p.spelling p.spelled (subst (SpellsParty b) (sym c.0) q.spelled)), c.1)
lead_once (role_name a) (role_name b) r s bytes k p q =
    let c = lead_cut (role_name a) (role_name b) r s bytes tt tt p q in
    (ap role_name (role_once a b p.spelling p.spelled (subst (SpellsWord (role_name b)) (sym c.0) q.spelled)), c.1)
lead_once (state_name a) (state_name b) r s bytes k p q =
    let c = lead_cut (state_name a) (state_name b) r s bytes tt tt p q in
    (ap state_name (state_once a b p.spelling p.spelled (subst (SpellsWord (state_name b)) (sym c.0) q.spelled)), c.1)
lead_once (quote x) (quote y) r s bytes k p q =
    let e : p.spelling ++ r ≡ q.spelling ++ s = cc (p.front, q.front) in
    let c = quoted_once x y r s p.spelled.0 q.spelled.0 (ap (λ l. l ++ r) (sym p.spelled.1) ∙ e ∙ ap (λ l. l ++ s) q.spelled.1) in
    (ap quote c.0, c.1)
lead_once _ _ r s bytes k p q = absurd k

-- what follows the word in front, where that is the first of these words
pub rest_of : (w v : Word) (rest bytes : List ℕ) (words : List Word) → AreAlike w v → Leads w rest bytes → SpellsWords (v ∷ words) bytes → SpellsWords words rest
rest_of w v rest bytes words k p s = subst (SpellsWords words) (sym (lead_once w v rest s.0 bytes k p s.1).1) s.2

-- words of which each is alike
abbrev pub AllAlike : List Word → List Word → Type 0
AllAlike [] [] = Unit {0}
AllAlike (w ∷ ws) (v ∷ vs) = AreAlike w v × AllAlike ws vs
AllAlike _ _ = ⊥

-- words that are alike and spelled by the same bytes are the same
pub words_once : (ws vs : List Word) (bytes : List ℕ) → AllAlike ws vs → SpellsWords ws bytes → SpellsWords vs bytes → ws ≡ vs
words_once [] [] bytes k s t = refl
words_once (w ∷ ws) (v ∷ vs) bytes k s t =
    let first = lead_once w v s.0 t.0 bytes k.0 s.1 t.1 in
    let others = words_once ws vs s.0 k.1 s.2 (subst (SpellsWords vs) (sym first.1) t.2) in
    ap (λ x. x ∷ ws) first.0 ∙ ap (λ l. v ∷ l) others
words_once [] (v ∷ vs) bytes k s t = absurd k
words_once (w ∷ ws) [] bytes k s t = absurd k

-- nothing and something in front
pub not_both : (w : Word) (rest bytes : List ℕ) → bytes ≡ [] → Leads w rest bytes → ⊥
not_both w rest bytes e p = let f : [] ≡ 32 ∷ (p.spelling ++ rest) = sym e ∙ p.front in cc

-- what follows a word that was read is not nothing
pub not_end : (w v : Word) (rest bytes : List ℕ) → AreAlike w v → Leads w rest bytes → 0 < length rest → SpellsWords (v ∷ []) bytes → ⊥
not_end w v rest bytes k p some s = let e : length rest ≡ 0 = ap length (rest_of w v rest bytes [] k p s) in omega (arith, e)

-- what follows the word in front, where more words and a rest follow it
pub lead_rest : (w v : Word) (rest last bytes : List ℕ) (words : List Word) → AreAlike w v → Leads w rest bytes → LeadAll (v ∷ words) last bytes → LeadAll words last rest
lead_rest w v rest last bytes words k p h = subst (LeadAll words last) (sym (lead_once w v rest h.0 bytes k p h.1).1) h.2

-- a number of a call and a quota are numbers
pub place_number : (n : ℕ) (rest bytes : List ℕ) → Leads (place n) rest bytes → Leads (number n) rest bytes
place_number n rest bytes h = record { spelling = h.spelling; spelled = (omega (arith, h.spelled.0), h.spelled.1); front = h.front; behind = h.behind }

pub quota_number : (n : ℕ) (rest bytes : List ℕ) → Leads (quota n) rest bytes → Leads (number n) rest bytes
quota_number n rest bytes h = record { spelling = h.spelling; spelled = (omega (arith, h.spelled.1), h.spelled.2); front = h.front; behind = h.behind }

same_number : (m n : ℕ) (r s bytes : List ℕ) → Leads (number m) r bytes → Leads (number n) s bytes → m ≡ n
same_number m n r s bytes p q = let e : number m ≡ number n = (lead_once (number m) (number n) r s bytes tt p q).0 in cc

pub far_place : (m : ℕ) (r bytes : List ℕ) → Leads (number m) r bytes → PLACE_LIMIT < m → (n : ℕ) (s : List ℕ) → Leads (place n) s bytes → ⊥
far_place m r bytes p far n s q = let e = same_number m n r s bytes p (place_number n s bytes q) in omega (arith, e, q.spelled.0)

pub small_quota : (m : ℕ) (r bytes : List ℕ) → Leads (number m) r bytes → m < QUOTA_LEAST → (n : ℕ) (s : List ℕ) → Leads (quota n) s bytes → ⊥
small_quota m r bytes p far n s q = let e = same_number m n r s bytes p (quota_number n s bytes q) in omega (arith, e, q.spelled.0)

pub great_quota : (m : ℕ) (r bytes : List ℕ) → Leads (number m) r bytes → QUOTA_MOST < m → (n : ℕ) (s : List ℕ) → Leads (quota n) s bytes → ⊥
great_quota m r bytes p far n s q = let e = same_number m n r s bytes p (quota_number n s bytes q) in omega (arith, e, q.spelled.1)

-- a word that is no direction
pub no_way : (word rest bytes : List ℕ) → HasNoSpace word → Leads (literal word) rest bytes → (word ≡ codes "up" → ⊥) → (word ≡ codes "down" → ⊥)
    → (up : Bool) (more : List ℕ) → Leads (literal (way_word up)) more bytes → ⊥
no_way word rest bytes free p f g true more q = f (word_is word rest more bytes (literal (codes "up")) free (tested_no_space (codes "up") refl) p q)
no_way word rest bytes free p f g false more q = g (word_is word rest more bytes (literal (codes "down")) free (tested_no_space (codes "down") refl) p q)

-- a quoted text in front
pub quote_led : (text raw rest behind bytes : List ℕ) → bytes ≡ 32 ∷ behind → behind ≡ in_quotes raw ++ rest → IsTextOf raw text → IsBehind rest → Leads (quote text) rest bytes
quote_led text raw rest behind bytes e f t end = record {
  spelling = quoted text;
  spelled = (t.0, refl);
  front = e ∙ ap (λ l. 32 ∷ l) (f ∙ ap (λ l. in_quotes l ++ rest) (sym t.1));
  behind = end;
}

-- a quoted text whose bytes were read
pub quote_of : (text raw rest more behind bytes : List ℕ) → bytes ≡ 32 ∷ behind → behind ≡ in_quotes raw ++ rest → Leads (quote text) more bytes → IsTextOf raw text × (rest ≡ more)
quote_of text raw rest more behind bytes e f p =
    let g : p.spelling ++ more ≡ behind = cc (p.front, e) in
    let h : in_quotes (encode_utf8_all text) ++ more ≡ in_quotes raw ++ rest = ap (λ l. l ++ more) (sym p.spelled.1) ∙ g ∙ f in
    let c = quotes_once (encode_utf8_all text) raw more rest h in
    ((p.spelled.0, c.0), sym c.1)

pub no_quote_bytes : (behind bytes : List ℕ) → bytes ≡ 32 ∷ behind → ((raw rest : List ℕ) → behind ≡ in_quotes raw ++ rest → ⊥) → (text rest : List ℕ) → Leads (quote text) rest bytes → ⊥
no_quote_bytes behind bytes e none text rest p =
    let g : p.spelling ++ rest ≡ behind = cc (p.front, e) in
    none (encode_utf8_all text) rest (sym g ∙ ap (λ l. l ++ rest) p.spelled.1)

pub way_free : (up : Bool) → HasNoSpace (way_word up)
way_free true = tested_no_space (codes "up") refl
way_free false = tested_no_space (codes "down") refl

-- what follows several words in front
pub behind_all : (ws vs : List Word) (rest bytes : List ℕ) (others : List Word) → AllAlike ws vs → LeadAll ws rest bytes → SpellsWords (vs ++ others) bytes → SpellsWords others rest
behind_all [] [] rest bytes others k h s = subst (SpellsWords others) h s
behind_all (w ∷ ws) (v ∷ vs) rest bytes others k h s = behind_all ws vs rest h.0 others k.1 h.2 (rest_of w v h.0 bytes (vs ++ others) k.0 h.1 s)
behind_all [] (v ∷ vs) rest bytes others k h s = absurd k
behind_all (w ∷ ws) [] rest bytes others k h s = absurd k
