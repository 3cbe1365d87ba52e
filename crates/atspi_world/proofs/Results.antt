-- What holds of an answer, from what holds where it is one.
use Rattle.std.specs.Prelude.{Result, Ok, Err, OnOk}

-- two facts of one answer
pub both_ok : {T F P Q S : Type 0} (r : Result T F) → (P → Q → S) → OnOk r P → OnOk r Q → OnOk r S
both_ok (Ok x) f p q = f p q
both_ok (Err e) f p q = tt

-- what holds whatever came of a call
pub ok_any : {T F P : Type 0} (r : Result T F) → P → OnOk r P
ok_any (Ok x) p = p
ok_any (Err e) p = tt
