use Rattle.std.proofs.Common.{◌≡◌, ℕ, ◌+◌, ◌<◌, ◌≤◌, Result, Ok, Err, refl, sym, ap, subst, ◌∙◌, arith}
use Rattle.std.specs.Prelude.{IfOk, ◌==◌, if◌then◌else◌}
use Rattle.atspi_types.specs.Kinds.{variant}
use Rattle.atspi_types.specs.declared.fault.Fault.{Fault}
use Rattle.atspi_marshal.specs.declared.input.Bound.{Bound}
use Rattle.atspi_marshal.specs.Input.{Input, byte_in}
use Rattle.atspi_marshal.specs.Reading.{◌>>=◌, bad, input_of, room_at, read}
use Rattle.atspi_message.specs.declared.code.Code.{Code}
use Rattle.atspi_message.specs.declared.code.Code.TheVariants.{Path, Interface, Member, Error, Reply, Destination, Sender, Signature, Descriptors}
use Rattle.atspi_message.specs.Codes.{number_of, code_of}
use Rattle.atspi_message.specs.inner.Reading.{Found, dropped, known_at, coded_at, field_at}
use Rattle.atspi_message_in_place.specs.View.{found_in, Reads}
use Rattle.atspi_message_in_place.proofs.header.Header.read.Goals as goal

-- a field whose code has a meaning is read by that code

abbrev behind : Input → Bound → Found → ℕ → ℕ → Result (Found × ℕ) Fault
behind i b found p n = if n == 0 then bad p 28 else coded_at i b found p (code_of n)

by_number : (i : Input) (b : Bound) (found : Found) (p : ℕ) (code : Code) → behind i b found p (number_of code) ≡ known_at i b found p code
by_number i b found p Path = refl
by_number i b found p Interface = refl
by_number i b found p Member = refl
by_number i b found p Error = refl
by_number i b found p Reply = refl
by_number i b found p Destination = refl
by_number i b found p Sender = refl
by_number i b found p Signature = refl
by_number i b found p Descriptors = refl

field_is : (i : Input) (b : Bound) (found : Found) (at p : ℕ) → room_at i 8 1 b at ≡ Ok p → field_at i b found at ≡ behind i b found p (byte_in i p)
unfolding field_at
field_is i b found at p room = ap (λ (r : Result ℕ Fault). r >>= λ (q : ℕ). behind i b found q (byte_in i q)) room

known_read : (i : Input) (b : Bound) (old new : Found) (at p : ℕ) (code : Code) (r : Result ℕ Fault) → room_at i 8 1 b at ≡ Ok p → number_of code ≡ byte_in i p
    → Reads (λ (next : ℕ). (new, next)) r (known_at i b old p code) → Reads (λ (next : ℕ). (new, next)) r (field_at i b old at)
known_read i b old new at p code r room is h =
    let e : field_at i b old at ≡ known_at i b old p code = field_is i b old at p room ∙ ap (λ (n : ℕ). behind i b old p n) (sym is) ∙ by_number i b old p code in
    subst (λ (x : Result (Found × ℕ) Fault). Reads (λ (next : ℕ). (new, next)) r x) (sym e) h

unknown_read : (i : Input) (b : Bound) (old : Found) (at p n : ℕ) → room_at i 8 1 b at ≡ Ok p → n ≡ byte_in i p → 10 ≤ n
    → field_at i b old at ≡ (read i 62 variant b (p + 1) >>= dropped old)
unknown_read i b old at p n room is more = field_is i b old at p room ∙ ap (λ (m : ℕ). behind i b old p m) (sym is) ∙ grind (arith)

-- what stands behind the place of the code stands behind the field's

further : (at p end : ℕ) (r : Result ℕ Fault) → at ≤ p → IfOk r (λ next. (p < next) × (next ≤ end)) → IfOk r (λ next. (at ≤ next) × (next ≤ end))
further at p end (Ok next) le h = (omega (arith, le, h.0), h.1)
further at p end (Err f) le h = tt

pub returns-in-1-clause-read : goal.returns-in-1-clause-read
returns-in-1-clause-read c =
    known_read (input_of c.args.input.now) c.args.bound (found_in c.args.self.now) (found_in c.known.new.self) c.args.at c.in_ok-place.place Path c.known.result (sym c.in_ok-place.ensures.place) (sym c.in-1.is ∙ c.byte_at.ensures) c.known.ensures.read

pub returns-in-1-clause-within : goal.returns-in-1-clause-within
returns-in-1-clause-within c = further c.args.at c.in_ok-place.place c.args.bound.end c.known.result c.in_ok-place.ensures.within.0 c.known.ensures.within

pub returns-in-2-clause-read : goal.returns-in-2-clause-read
returns-in-2-clause-read c =
    known_read (input_of c.args.input.now) c.args.bound (found_in c.args.self.now) (found_in c.known-in-2.new.self) c.args.at c.in_ok-place.place Interface c.known-in-2.result (sym c.in_ok-place.ensures.place) (sym c.in-2.is ∙ c.byte_at.ensures) c.known-in-2.ensures.read

pub returns-in-2-clause-within : goal.returns-in-2-clause-within
returns-in-2-clause-within c = further c.args.at c.in_ok-place.place c.args.bound.end c.known-in-2.result c.in_ok-place.ensures.within.0 c.known-in-2.ensures.within

pub returns-in-3-clause-read : goal.returns-in-3-clause-read
returns-in-3-clause-read c =
    known_read (input_of c.args.input.now) c.args.bound (found_in c.args.self.now) (found_in c.known-in-3.new.self) c.args.at c.in_ok-place.place Member c.known-in-3.result (sym c.in_ok-place.ensures.place) (sym c.in-3.is ∙ c.byte_at.ensures) c.known-in-3.ensures.read

pub returns-in-3-clause-within : goal.returns-in-3-clause-within
returns-in-3-clause-within c = further c.args.at c.in_ok-place.place c.args.bound.end c.known-in-3.result c.in_ok-place.ensures.within.0 c.known-in-3.ensures.within

pub returns-in-4-clause-read : goal.returns-in-4-clause-read
returns-in-4-clause-read c =
    known_read (input_of c.args.input.now) c.args.bound (found_in c.args.self.now) (found_in c.known-in-4.new.self) c.args.at c.in_ok-place.place Error c.known-in-4.result (sym c.in_ok-place.ensures.place) (sym c.in-4.is ∙ c.byte_at.ensures) c.known-in-4.ensures.read

pub returns-in-4-clause-within : goal.returns-in-4-clause-within
returns-in-4-clause-within c = further c.args.at c.in_ok-place.place c.args.bound.end c.known-in-4.result c.in_ok-place.ensures.within.0 c.known-in-4.ensures.within

pub returns-in-5-clause-read : goal.returns-in-5-clause-read
returns-in-5-clause-read c =
    known_read (input_of c.args.input.now) c.args.bound (found_in c.args.self.now) (found_in c.known-in-5.new.self) c.args.at c.in_ok-place.place Reply c.known-in-5.result (sym c.in_ok-place.ensures.place) (sym c.in-5.is ∙ c.byte_at.ensures) c.known-in-5.ensures.read

pub returns-in-5-clause-within : goal.returns-in-5-clause-within
returns-in-5-clause-within c = further c.args.at c.in_ok-place.place c.args.bound.end c.known-in-5.result c.in_ok-place.ensures.within.0 c.known-in-5.ensures.within

pub returns-in-6-clause-read : goal.returns-in-6-clause-read
returns-in-6-clause-read c =
    known_read (input_of c.args.input.now) c.args.bound (found_in c.args.self.now) (found_in c.known-in-6.new.self) c.args.at c.in_ok-place.place Destination c.known-in-6.result (sym c.in_ok-place.ensures.place) (sym c.in-6.is ∙ c.byte_at.ensures) c.known-in-6.ensures.read

pub returns-in-6-clause-within : goal.returns-in-6-clause-within
returns-in-6-clause-within c = further c.args.at c.in_ok-place.place c.args.bound.end c.known-in-6.result c.in_ok-place.ensures.within.0 c.known-in-6.ensures.within

pub returns-in-7-clause-read : goal.returns-in-7-clause-read
returns-in-7-clause-read c =
    known_read (input_of c.args.input.now) c.args.bound (found_in c.args.self.now) (found_in c.known-in-7.new.self) c.args.at c.in_ok-place.place Sender c.known-in-7.result (sym c.in_ok-place.ensures.place) (sym c.in-7.is ∙ c.byte_at.ensures) c.known-in-7.ensures.read

pub returns-in-7-clause-within : goal.returns-in-7-clause-within
returns-in-7-clause-within c = further c.args.at c.in_ok-place.place c.args.bound.end c.known-in-7.result c.in_ok-place.ensures.within.0 c.known-in-7.ensures.within

pub returns-in-8-clause-read : goal.returns-in-8-clause-read
returns-in-8-clause-read c =
    known_read (input_of c.args.input.now) c.args.bound (found_in c.args.self.now) (found_in c.known-in-8.new.self) c.args.at c.in_ok-place.place Signature c.known-in-8.result (sym c.in_ok-place.ensures.place) (sym c.in-8.is ∙ c.byte_at.ensures) c.known-in-8.ensures.read

pub returns-in-8-clause-within : goal.returns-in-8-clause-within
returns-in-8-clause-within c = further c.args.at c.in_ok-place.place c.args.bound.end c.known-in-8.result c.in_ok-place.ensures.within.0 c.known-in-8.ensures.within

pub returns-in-9-clause-read : goal.returns-in-9-clause-read
returns-in-9-clause-read c =
    known_read (input_of c.args.input.now) c.args.bound (found_in c.args.self.now) (found_in c.known-in-9.new.self) c.args.at c.in_ok-place.place Descriptors c.known-in-9.result (sym c.in_ok-place.ensures.place) (sym c.in-9.is ∙ c.byte_at.ensures) c.known-in-9.ensures.read

pub returns-in-9-clause-within : goal.returns-in-9-clause-within
returns-in-9-clause-within c = further c.args.at c.in_ok-place.place c.args.bound.end c.known-in-9.result c.in_ok-place.ensures.within.0 c.known-in-9.ensures.within
