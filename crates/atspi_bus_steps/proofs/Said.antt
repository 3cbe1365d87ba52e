-- Own messages, one said after the other.
use Rattle.std.proofs.Common.{◌≡◌, ℕ, suc, ◌+◌, ◌<◌, List, [], ◌∷◌, ◌++◌, length, map, refl, sym, ap, ◌∙◌, subst, append-nil, append_assoc, arith, add-one}
use Rattle.std.specs.List.{fold, flat_map, All}
use Rattle.std.proofs.lemmas.List.Elements.{All-head, All-tail}
use Rattle.std.proofs.lemmas.List.Sums.{fold-append}
use Rattle.std.proofs.lemmas.List.Folds.{fold-map}
use Rattle.atspi_message.specs.Envelope.{Envelope}
use Rattle.atspi_message.specs.Bytes.{written}
use Rattle.atspi_match.specs.routing.BusState.{BusState}
use Rattle.atspi_match.specs.routing.OwnMessages.{numbered}
use Rattle.atspi_match.specs.routing.Routing.{receivers}
use Rattle.atspi_match.specs.routing.Steps.{Move, says, delivers, closes, handed, said, speaks}
use Rattle.atspi_match.specs.routing.Queues.{Bus, Waiting, moved, own_of, stepped}
use Rattle.atspi_bus_queues.specs.Held.{Held}
use Rattle.atspi_bus_steps.specs.inner.Handing.{handed_out, queued_each}
use Rattle.atspi_bus_steps.specs.Sayable.{MaySay}
use Rattle.atspi_bus_steps.specs.Sound.{IsReady}
use Rattle.atspi_bus_steps.proofs.Asking.{receivers-parts}

pub own_of-append : (a b : List Move) → own_of (a ++ b) ≡ own_of a ++ own_of b
own_of-append [] b = refl
own_of-append (says e ∷ a) b = ap (λ (l : List Envelope). e ∷ l) (own_of-append a b)
own_of-append (delivers c e ∷ a) b = own_of-append a b
own_of-append (closes c ∷ a) b = own_of-append a b

delivered : (e : Envelope) (cs : List ℕ) → own_of (map (λ c. delivers c e) cs) ≡ []
delivered e [] = refl
delivered e (c ∷ cs) = delivered e cs

pub own_of-handed : (s : BusState) (e : Envelope) → own_of (handed s e) ≡ []
own_of-handed s e = delivered e (receivers s e)

-- who receives does not depend on the next number
pub handed-next : (s : BusState) (n : ℕ) (e : Envelope) → handed (record s { next = n }) e ≡ handed s e
handed-next s n e = ap (λ (cs : List ℕ). map (λ c. delivers c e) cs) (sym (receivers-parts (record s { next = n }) e) ∙ receivers-parts s e)

all_said-next : (s : BusState) (n : ℕ) (es : List Envelope)
    → flat_map (λ e. says e ∷ handed (record s { next = n }) e) es ≡ flat_map (λ e. says e ∷ handed s e) es
all_said-next s n [] = refl
all_said-next s n (e ∷ es) =
    ap (λ (l : List Move). (says e ∷ l) ++ flat_map (λ d. says d ∷ handed (record s { next = n }) d) es) (handed-next s n e)
    ∙ ap (λ (l : List Move). (says e ∷ handed s e) ++ l) (all_said-next s n es)

-- one message said
pub one_said : (b : Bus) (e : Envelope)
    → record (handed_out b (record e { serial = b.state.next })) { state = record b.state { next = b.state.next + 1 }; own = b.own ++ record e { serial = b.state.next } ∷ [] }
    ≡ stepped b (speaks b.state (e ∷ []))
one_said b e =
    let d = record e { serial = b.state.next } in
    let moves : List Move = says d ∷ handed b.state d in
    let same : moves ≡ moves ++ [] = sym (append-nil moves) in
    let own : d ∷ [] ≡ own_of moves = ap (λ (l : List Envelope). d ∷ l) (sym (own_of-handed b.state d)) in
    ap (λ (l : List Envelope). record b { state = record b.state { next = b.state.next + 1 }; waiting = fold (moved b.quota) b.waiting moves; own = b.own ++ l }) own
    ∙ ap (λ (ms : List Move). record b { state = record b.state { next = b.state.next + 1 }; waiting = fold (moved b.quota) b.waiting ms; own = b.own ++ own_of ms }) same

later : (n k : ℕ) → (n + 1) + k ≡ n + suc k
later n k = omega arith

-- a message and those behind it
pub more_said : (b : Bus) (e : Envelope) (es : List Envelope)
    → stepped (stepped b (speaks b.state (e ∷ []))) (speaks (stepped b (speaks b.state (e ∷ []))).state es) ≡ stepped b (speaks b.state (e ∷ es))
more_said b e es =
    let s = b.state in
    let d = record e { serial = s.next } in
    let first : List Move = (says d ∷ handed s d) ++ [] in
    let one : List Move = says d ∷ handed s d in
    let t = record s { next = s.next + 1 } in
    let rest : List Move = flat_map (λ x. says x ∷ handed s x) (numbered (s.next + 1) es) in
    let nil : first ≡ one = append-nil one in
    let alike : said t es ≡ rest = all_said-next s (s.next + 1) (numbered (s.next + 1) es) in
    ap (λ (ms : List Move). record b { state = record s { next = (s.next + 1) + length es }; waiting = fold (moved b.quota) (fold (moved b.quota) b.waiting ms) (said t es); own = (b.own ++ own_of ms) ++ own_of (said t es) }) nil
    ∙ ap (λ (ms : List Move). record b { state = record s { next = (s.next + 1) + length es }; waiting = fold (moved b.quota) (fold (moved b.quota) b.waiting one) ms; own = (b.own ++ own_of one) ++ own_of ms }) alike
    ∙ ap (λ (w : Waiting). record b { state = record s { next = (s.next + 1) + length es }; waiting = w; own = (b.own ++ own_of one) ++ own_of rest }) (sym (fold-append (moved b.quota) b.waiting one rest))
    ∙ ap (λ (l : List Envelope). record b { state = record s { next = (s.next + 1) + length es }; waiting = fold (moved b.quota) b.waiting (one ++ rest); own = l }) (append_assoc b.own (own_of one) (own_of rest) ∙ ap (λ (l : List Envelope). b.own ++ l) (sym (own_of-append one rest)))
    ∙ ap (λ (k : ℕ). record b { state = record s { next = k }; waiting = fold (moved b.quota) b.waiting (one ++ rest); own = b.own ++ own_of (one ++ rest) }) (later s.next (length es))

-- nothing said
pub none_said : (b : Bus) → stepped b (speaks b.state []) ≡ b
none_said b =
    ap (λ (k : ℕ). record b { state = record b.state { next = k }; own = b.own ++ [] }) (zero_more b.state.next)
    ∙ ap (λ (l : List Envelope). record b { own = l }) (append-nil b.own)
  where
    zero_more : (n : ℕ) → n + 0 ≡ n
    zero_more n = omega arith

-- a bus with other queues
abbrev pub with_held : Bus → Held → Bus
with_held b h = record b { quota = h.quota; waiting = h.waiting }

-- bytes that went to each of a message's receivers
pub handed-is : (b : Bus) (h : Held) (e : Envelope) (bytes conns : List ℕ) → h ≡ record { quota = b.quota; waiting = queued_each b.quota b.waiting bytes conns }
    → bytes ≡ written e → conns ≡ receivers b.state e → with_held b h ≡ handed_out b e
handed-is b h e bytes conns is same are =
    ap (with_held b) is
    ∙ ap (λ (x : List ℕ). record b { waiting = queued_each b.quota b.waiting x conns }) same
    ∙ ap (λ (cs : List ℕ). record b { waiting = queued_each b.quota b.waiting (written e) cs }) are
    ∙ ap (λ (w : Waiting). record b { waiting = w }) (sym (fold-map (moved b.quota) (λ c. delivers c e) b.waiting (receivers b.state e)))

-- of all messages some were said, and the rest is left
pub record IsSaying (first b : Bus) (all rest : List Envelope) : Type 0 where
  pub same : stepped b (speaks b.state rest) ≡ stepped first (speaks first.state all)
  pub ready : IsReady b.state
  pub count : b.state.next + length rest ≡ first.state.next + length all
  pub sayable : All MaySay rest

pub saying-start : (b : Bus) (all : List Envelope) → IsReady b.state → All MaySay all → IsSaying b b all all
saying-start b all ready sayable = record { same = refl; ready = ready; count = refl; sayable = sayable }

pub saying-next : (first b next : Bus) (all rest : List Envelope) (e : Envelope) (left : List Envelope) → IsSaying first b all rest → rest ≡ e ∷ left
    → next ≡ stepped b (speaks b.state (e ∷ [])) → IsReady next.state → IsSaying first next all left
saying-next first b next all rest e left was is new ready = record {
  same = ap (λ (n : Bus). stepped n (speaks n.state left)) new ∙ more_said b e left ∙ ap (λ (l : List Envelope). stepped b (speaks b.state l)) (sym is) ∙ was.same;
  ready = ready;
  count =
      let one : next.state.next ≡ b.state.next + 1 = ap (λ (n : Bus). n.state.next) new in
      let len : length rest ≡ length left + 1 = ap length is ∙ sym (add-one (length left)) in
      let count = was.count in
      omega arith;
  sayable = All-tail MaySay e left (subst (All MaySay) is was.sayable);
}

pub saying-first : (first b : Bus) (all rest : List Envelope) (e : Envelope) (left : List Envelope) → IsSaying first b all rest → rest ≡ e ∷ left → MaySay e
saying-first first b all rest e left was is = All-head MaySay e left (subst (All MaySay) is was.sayable)

pub saying-spent : (first b : Bus) (all rest : List Envelope) (e : Envelope) (left : List Envelope) → IsSaying first b all rest → rest ≡ e ∷ left → b.state.next ≡ 4294967296
    → 4294967296 < first.state.next + length all
saying-spent first b all rest e left was is over =
    let len : length rest ≡ length left + 1 = ap length is ∙ sym (add-one (length left)) in
    let count = was.count in
    omega arith

pub saying-end : (first b : Bus) (all rest : List Envelope) → IsSaying first b all rest → rest ≡ [] → b ≡ stepped first (speaks first.state all)
saying-end first b all rest was none = sym (none_said b) ∙ ap (λ (l : List Envelope). stepped b (speaks b.state l)) (sym none) ∙ was.same
