-- Of messages whose serials rise by one those up to a serial stand in front: so what is told of a bus is what is to be written.
use Rattle.std.proofs.Common.{◌≡◌, ℕ, zero, suc, ◌+◌, ◌<◌, Bool, true, false, List, [], ◌∷◌, ◌++◌, map, refl, sym, ap, ◌∙◌, arith}
use Rattle.std.specs.Prelude.{filter, not, if◌then◌else◌}
use Rattle.std.proofs.lemmas.Bool.{leb-false, lt-leb}
use Rattle.atspi_message.specs.Envelope.{Envelope}
use Rattle.atspi_script_lines.specs.declared.line.Party.{Party}
use Rattle.atspi_script_lines.specs.declared.line.Party.TheVariants.{Registry}
use Rattle.atspi_match.specs.declared.routing.closing.Closing.{Closing}
use Rattle.atspi_trace.specs.Entry.{Entry}
use Rattle.atspi_trace.specs.World.{End}
use Rattle.atspi_trace.specs.Ends.{same_party, party_at}
use Rattle.atspi_trace.specs.Carrying.{is_upto, sent_by_bus, dropped_if, bus_entries}
use Rattle.atspi_world_moves.specs.inner.Told.{party_in, front_upto, behind_upto, bus_told}
use Rattle.atspi_world_moves.proofs.OwnSerials.{Numbered}

none_upto : (s n : ℕ) (es : List Envelope) → s < n → Numbered n es → (filter (is_upto s) es ≡ []) × (filter (λ e. not (is_upto s e)) es ≡ es)
none_upto s n [] h a = (refl, refl)
none_upto s n (e ∷ es) h a =
    let past : is_upto s e ≡ false = lt-leb e.serial s (omega (arith, h, a.0)) in
    let rest = none_upto s (n + 1) es (omega (arith, h)) a.1 in (
      ap (λ b. if b then e ∷ filter (is_upto s) es else filter (is_upto s) es) past ∙ rest.0,
      ap (λ b. if not b then e ∷ filter (λ m. not (is_upto s m)) es else filter (λ m. not (is_upto s m)) es) past ∙ ap (λ l. e ∷ l) rest.1,
    )

pub front_is : (s n : ℕ) (es : List Envelope) → Numbered n es → (filter (is_upto s) es ≡ front_upto s es) × (filter (λ e. not (is_upto s e)) es ≡ behind_upto s es)
front_is s n [] a = (refl, refl)
front_is s n (e ∷ es) a = by (is_upto s e) refl (front_is s (n + 1) es a.1)
  where
    by : (b : Bool) → is_upto s e ≡ b → (filter (is_upto s) es ≡ front_upto s es) × (filter (λ m. not (is_upto s m)) es ≡ behind_upto s es)
        → ((if b then e ∷ filter (is_upto s) es else filter (is_upto s) es) ≡ (if b then e ∷ front_upto s es else []))
        × ((if not b then e ∷ filter (λ m. not (is_upto s m)) es else filter (λ m. not (is_upto s m)) es) ≡ (if b then behind_upto s es else e ∷ es))
    by true h rest = (ap (λ l. e ∷ l) rest.0, rest.1)
    by false h later =
        let past : s < e.serial = leb-false e.serial s h in
        let rest = none_upto s (n + 1) es (omega (arith, past, a.0)) a.1 in
        (rest.0, ap (λ l. e ∷ l) rest.1)

behind_numbered : (s n : ℕ) (es : List Envelope) → Numbered n es → (m : ℕ) × Numbered m (behind_upto s es)
behind_numbered s n [] a = (n, tt)
behind_numbered s n (e ∷ es) a = by (is_upto s e) (behind_numbered s (n + 1) es a.1)
  where
    by : (b : Bool) → (m : ℕ) × Numbered m (behind_upto s es) → (m : ℕ) × Numbered m (if b then behind_upto s es else e ∷ es)
    by true rest = rest
    by false rest = (n, a)

-- so what is told is what is to be written

abbrev pub who_of : End → Party
who_of e = e.who

party_is : (ends : List End) (conn : ℕ) → party_at ends conn ≡ party_in (map who_of ends) conn
party_is ends conn = by ends conn
  where
    by : (es : List End) (k : ℕ) → party_at es k ≡ party_in (map who_of es) k
    by [] zero = refl
    by [] (suc k) = refl
    by (e ∷ es) zero = refl
    by (e ∷ es) (suc k) = by es k

abbrev told_of : Closing → List Envelope → Party → List Entry → List Entry
told_of c front who behind = sent_by_bus front ++ (dropped_if who c.why ++ (if same_party who Registry then [] else behind))

pub told_is : (ends : List End) (parties : List Party) → parties ≡ map who_of ends → (closings : List Closing) (n : ℕ) (own : List Envelope) → Numbered n own
    → bus_entries ends own closings ≡ bus_told parties own closings
told_is ends parties are [] n own a = refl
told_is ends parties are (c ∷ cs) n own a =
    let f = front_is c.after n own a in
    let later = behind_numbered c.after n own a in
    let who : party_at ends c.conn ≡ party_in parties c.conn = party_is ends c.conn ∙ ap (λ l. party_in l c.conn) (sym are) in
    ap (λ l. told_of c l (party_at ends c.conn) (bus_entries ends (filter (λ e. not (is_upto c.after e)) own) cs)) f.0
    ∙ ap (λ p. told_of c (front_upto c.after own) p (bus_entries ends (filter (λ e. not (is_upto c.after e)) own) cs)) who
    ∙ ap (λ l. told_of c (front_upto c.after own) (party_in parties c.conn) (bus_entries ends l cs)) f.1
    ∙ ap (told_of c (front_upto c.after own) (party_in parties c.conn)) (told_is ends parties are cs later.0 (behind_upto c.after own) later.1)
