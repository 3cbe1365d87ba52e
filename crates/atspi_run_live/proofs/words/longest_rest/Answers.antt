use Rattle.std.proofs.Common.{map, string_bytes, arith}
use Rattle.atspi_run_live.proofs.OfWords.{same_live}
use Rattle.atspi_run_live.proofs.words.longest_rest.Goals as goal

pub returns-in_default : goal.returns-in_default
returns-in_default c service path is =
    let same = same_live (map string_bytes c.args.words.now) c.in-Some.live.service service c.in-Some.live.path.now path c.in-Some.live.rounds 1000000000 c.in-Some.ensures is in
    absurd (omega (arith, same.2))
