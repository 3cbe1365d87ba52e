-- How a run of the bus ends, by why it stops.
use Rattle.std.proofs.Common.{◌≡◌, ℕ, List, [], Result, Ok, Err, refl, sym, subst, inl, inr, arith}
use Rattle.std.specs.Prelude.{IfErr, IfOk, OnErr, OnOk}
use Rattle.atspi_live_bus.specs.declared.stop.Stop.{Stop}
use Rattle.atspi_live_bus.specs.declared.stop.Stop.TheVariants as stops
use Rattle.atspi_live_bus.specs.declared.link.Link.{Link}
use Rattle.atspi_live_bus.specs.Stops.{Ends, IsFree, StopBlames, status_of}
use Rattle.atspi_live_bus.specs.inner.Serving.{Serves}

pub stopped : (stop : Stop) (status before after : ℕ) → status ≡ status_of stop → StopBlames stop before after → Ends status before after
stopped stops.HostFailed status before after e b = record { status_is = inr (inl e); by_host = λ s. b.1; no_host = inl e }
stopped stops.Spent status before after e b = record { status_is = inr (inr (inr e)); by_host = λ s. absurd (omega (arith, s, e)); no_host = inr b }
stopped stops.NoMemory status before after e b = record { status_is = inl e; by_host = λ s. absurd (omega (arith, s, e)); no_host = inr b }

pub done : (before after : ℕ) → after ≡ before → Ends 8 before after
done before after e = record { status_is = inr (inr (inl refl)); by_host = λ s. absurd (omega (arith, s)); no_host = inr e }

-- a stop that no call of the host is to blame for leaves its count
pub free_blames : (stop : Stop) (before after : ℕ) → IsFree stop → after ≡ before → StopBlames stop before after
free_blames stops.HostFailed before after f e = absurd f
free_blames stops.Spent before after f e = e
free_blames stops.NoMemory before after f e = e

-- nobody has joined
pub none_served : (o : List ℕ) (links : List Link) → o ≡ [] → links ≡ [] → Serves o links
none_served o links e f = subst (λ w. Serves w links) (sym e) (subst (λ w. Serves [] w) (sym f) (record { are = refl; differ = tt }))

pub on_ok : {A E : Type 0} (r : Result A E) (P Q : Type 0) → (P → Q) → OnOk r P → OnOk r Q
on_ok (Ok x) P Q f p = f p
on_ok (Err e) P Q f p = tt

pub if_err : {A E : Type 0} (r : Result A E) (P Q : E → Type 0) → ((e : E) → P e → Q e) → IfErr r P → IfErr r Q
if_err (Ok x) P Q f p = tt
if_err (Err e) P Q f p = f e p

pub always_ok : {A E : Type 0} (r : Result A E) (P : Type 0) → P → OnOk r P
always_ok (Ok x) P p = p
always_ok (Err e) P p = tt

pub always_err : {A E : Type 0} (r : Result A E) (P : Type 0) → P → OnErr r P
always_err (Ok x) P p = tt
always_err (Err e) P p = p

pub if_ok : {A E : Type 0} (r : Result A E) (P Q : A → Type 0) → ((x : A) → P x → Q x) → IfOk r P → IfOk r Q
if_ok (Ok x) P Q f p = f x p
if_ok (Err e) P Q f p = tt
