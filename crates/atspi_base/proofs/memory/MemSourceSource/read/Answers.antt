use Rattle.std.proofs.Common.{rules, arith, sym, ◌≡◌, ◌≤◌, [], length, drop, take, ℕ, ◌+◌, ◌-◌, ◌<◌, List, ◌++◌, min, length-drop, length-take}
use Rattle.std.proofs.lemmas.List.{take_at, drop_all, drop-drop, take-append-drop}
use Rattle.atspi_base.proofs.memory.MemSourceSource.read.Goals as goal

-- the next n bytes are moved to the front
moved : (xs front back : List ℕ) (at n : ℕ) → front ≡ take (at + n - at) (drop at xs) → at + n ≤ length xs → drop at xs ≡ take n (front ++ back) ++ drop (at + n) xs
moved xs front back at n e h =
    let m : at + n - at ≡ n = omega arith in
    let f : front ≡ take n (drop at xs) = rw m at e in
    let k : length front ≡ n = rw f (omega (arith, length-take n (drop at xs), length-drop at xs)) in
    rw (take_at front back n k, f, ← drop-drop n at xs) (sym (take-append-drop n (drop at xs)))

-- nothing moved into some room is the end
ended : (xs : List ℕ) (at n room : ℕ) → n ≡ min room (length xs - at) → n ≡ 0 → 0 < room → drop (at + n) xs ≡ []
ended xs at n room m z h = drop_all (at + n) xs (omega arith)

pub returns-clause-bytes : goal.returns-clause-bytes
returns-clause-bytes c =
    let xs = c.args.self.now.bytes.items in
    let v : c.deref-2.result.now ≡ xs = search rules in (
      moved xs c.copy_from_slice.new.self _ c.args.self.now.at c.min-n.result (rw v at c.copy_from_slice.ensures.after) (omega arith),
      λ z h. ended xs c.args.self.now.at c.min-n.result (length c.args.into.now) (search rules) z (omega arith),
    )
