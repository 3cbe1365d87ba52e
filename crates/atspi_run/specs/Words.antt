-- What the words of a command line ask for.
use Rattle.std.specs.Prelude.{◌≡◌, ◌⊎◌, ℕ, ◌<◌, ◌≤◌, Bool, true, false, List, [], ◌∷◌, ◌++◌, Option, codes}
use Rattle.std.specs.Fmt.{decimal}
use Rattle.std.specs.Io.KnownBytes.{Appends}
use Rattle.atspi_base.specs.Outside.{AppendsPart}
use Rattle.atspi_trace_texts.specs.declared.options.TraceOptions.{TraceOptions}
use Rattle.atspi_run_live.specs.Words.{IsLive}
use Rattle.atspi_run_live.specs.declared.words.Service.{Service}
use Rattle.atspi_run.specs.declared.words.Script.{Script}
use Rattle.atspi_run.specs.declared.words.Task.{Task}
use Rattle.atspi_run.specs.declared.words.Task.TheVariants.{Replay, Make}
use Rattle.atspi_run_replay.specs.declared.making.TheConstants.{MAKE_LIMIT, SEED_LIMIT}

-- lines, each with its line feed
abbrev pub text_of : List (List ℕ) → List ℕ
text_of [] = []
text_of (line ∷ lines) = line ++ 10 ∷ text_of lines

-- what is written for `--help`
abbrev pub help : List ℕ
help =
    text_of
    (codes "atspi replay [--brief] [--wire]  a script on standard input: what happens, line by line"
    ∷ codes "atspi replay --help              the lines of a script, and the statuses of replay"
    ∷ codes "atspi make N SEED                a script of N edits is drawn and done: a line on what came of it"
    ∷ codes "atspi make --help                its limits, and its statuses"
    ∷ codes "atspi check                      D-Bus messages on standard input: a line for each, or the first fault"
    ∷ codes "atspi check --help               the lines that check writes, and its statuses"
    ∷ codes "atspi hit                        edits and rectangles on standard input: points, cells and relations"
    ∷ codes "atspi hit --help                 the lines that hit reads, and its statuses"
    ∷ codes "atspi bus PATH ROUNDS            a message bus on the Unix socket PATH, for so many rounds"
    ∷ codes "atspi registry PATH ROUNDS       the registry of accessible applications, on the bus at PATH"
    ∷ codes "atspi app PATH ROUNDS            an application there, which does the lines on standard input"
    ∷ codes "atspi read PATH ROUNDS           a reader there: what it speaks and, once the bus ends, what it holds"
    ∷ codes "atspi --help                     this text"
    ∷ codes "atspi --version                  the version"
    ∷ [])

-- for `--version`
abbrev pub version : List ℕ
version = text_of (codes "atspi 0.1.0" ∷ [])

-- for `replay --help`
abbrev pub replay_help : List ℕ
replay_help =
    text_of
    (codes "atspi replay [--brief] [--wire]"
    ∷ codes "Does the lines of the script on standard input, and writes what happens: each start, step, message,"
    ∷ codes "spoken line and end. --brief keeps what readers say and show, who is dropped, and how turns end;"
    ∷ codes "--wire adds the bytes of messages."
    ∷ codes ""
    ∷ codes "app Q                      the next application starts: a0 to a15"
    ∷ codes "reader                     the next reader starts: r0 to r3"
    ∷ codes "quota N                    each queue holds N bytes, 1024 to 16777216; before the first start"
    ∷ codes "edit A insert P I ROLE Q   a new node below node P, before its child I; behind it `text Q` or"
    ∷ codes "                           `static Q`, `columns K`, `select`, `action Q` up to 8 times"
    ∷ codes "edit A remove N            N goes, with all below it"
    ∷ codes "edit A move N P I          N goes below P, before its child I"
    ∷ codes "edit A name N Q            also: describe N Q, role N ROLE, state N STATE on|off, focus N"
    ∷ codes "edit A put N O Q           Q stands in N's text at O; also: type N Q, cut N O J, caret N O,"
    ∷ codes "                           mark N O J, unmark N"
    ∷ codes "edit A select N I          also: deselect N I, press N I, relate N K M, unrelate N K M"
    ∷ codes "call R A N CALL            R calls node N of A: set-caret I, insert-text I Q, delete-text I J,"
    ∷ codes "                           set-text Q, select-child I, deselect-child I, select-all,"
    ∷ codes "                           clear-selection, do-action I"
    ∷ codes "swap A                     A's texts go into another face"
    ∷ codes "exit A, leave R            that end stops"
    ∷ codes "bytes P up N, bytes P down N   N bytes of P's link move; P is A, R or reg"
    ∷ codes "turns N                    N times the first thing that waits moves; busy N: something waits still"
    ∷ codes "drain                      until nothing waits: quiet"
    ∷ codes "show R A                   writes what R holds of A"
    ∷ codes "# TEXT                     nothing; so does an empty line"
    ∷ codes ""
    ∷ codes "Q stands in double quotes; in it a quote and a backslash are written behind a backslash, and a"
    ∷ codes "control character as x and two hexadecimal digits behind one. ROLE is a word, as push-button, or a"
    ∷ codes "number. A script has at most 16777216 bytes, and a line 65536."
    ∷ codes ""
    ∷ codes "Status 0: all lines of the script were done. 1: a line is refused, which `refused LINE WHY` tells."
    ∷ codes "3: reading failed, behind whole lines that were done. 4: writing failed. 5: no memory is left."
    ∷ codes "8: the script is longer than its limit, and the whole lines inside it were done. 9: the registry was"
    ∷ codes "dropped at its quota. 13: a message would pass number 4294967295."
    ∷ [])

-- for `make --help`
abbrev pub make_help : List ℕ
make_help =
    text_of
    (codes "atspi make N SEED"
    ∷ codes "Draws N edits from SEED, does them in an application that a reader follows, and writes"
    ∷ codes "`made N SEED steps S nodes M says K`: S steps of the tree, M nodes that the reader holds at the end,"
    ∷ codes "K lines that it spoke. The same words write the same line."
    ∷ codes ""
    ∷ codes "N is 1 to 20000, SEED 0 to 2147483647."
    ∷ codes ""
    ∷ codes "Status 0: the line was written. 4: writing failed. 5: no memory is left. 1, 9, 13: as of replay."
    ∷ [])

-- for `check --help`
abbrev pub check_help : List ℕ
check_help =
    text_of
    (codes "atspi check"
    ∷ codes "Reads D-Bus messages on standard input, and writes a line for each before it reads on."
    ∷ codes ""
    ∷ codes "START TEXT                  a message, with START bytes of input before it"
    ∷ codes "fault START PLACE REASON    the first fault: REASON at PLACE of the message at START"
    ∷ codes ""
    ∷ codes "The input has at most 1073741824 bytes."
    ∷ codes ""
    ∷ codes "Status 0: the input was read to its end, and is whole messages. 3: reading failed, behind whole"
    ∷ codes "messages that were told. 4: writing failed. 5: no memory is left. 6: a message is malformed, or the"
    ∷ codes "input ends inside one (reason 36). 8: the input is longer than its limit."
    ∷ [])

-- for `hit --help`
abbrev pub hit_help : List ℕ
hit_help =
    text_of
    (codes "atspi hit"
    ∷ codes "Does edits of an application's tree, and tells which node is at a point, where nodes stand, which cell is"
    ∷ codes "beside a cell, and what relations name. The first line that is no comment is `app Q`."
    ∷ codes ""
    ∷ codes "app Q                  the application starts, with the name of its root"
    ∷ codes "insert P I ROLE Q      an edit of a script (atspi replay --help), without the words `edit A`"
    ∷ codes "place N X Y W H        node N stands in this rectangle from now on"
    ∷ codes "extents N              where N stands, as the reply of Component that an application gives"
    ∷ codes "inside N X Y           whether the point is in N's rectangle, in the same way"
    ∷ codes "point N X Y            which node is at the point, of N and those below it, in the same way"
    ∷ codes "cell N I WAY           cell M: the node beside cell I of table N; WAY is up, down, left or right"
    ∷ codes "follow N K             follow M ..: the targets of N's relation of kind K, 1 to 18"
    ∷ codes "# TEXT                 nothing; so does an empty line"
    ∷ codes ""
    ∷ codes "X and Y may begin with `-`. Of a rectangle they are -1000000 to 1000000, W and H 0 to 1000000. The input"
    ∷ codes "has at most 16777216 bytes, and a line 65536."
    ∷ codes ""
    ∷ codes "Status 0: all lines were done. 1: a line is refused, which `refused LINE WHY` tells. 3: reading failed,"
    ∷ codes "behind whole lines that were done. 4: writing failed. 5: no memory is left. 8: the input is longer than"
    ∷ codes "its limit, and the whole lines inside it were done."
    ∷ [])

-- what is written where the words ask for nothing
abbrev pub usage : List ℕ
usage = text_of (codes "usage: atspi replay, check, make, bus, registry, app or read" ∷ [])

-- a word that stands where it is asked for
abbrev pub word_if : Bool → List ℕ → List (List ℕ)
word_if true word = word ∷ []
word_if false word = []

-- the words are `replay [--brief] [--wire]`, with these options
abbrev pub IsReplay : List (List ℕ) → TraceOptions → Type 0
IsReplay words options = words
    ≡ codes "replay" ∷ (word_if options.brief (codes "--brief") ++ word_if options.wire (codes "--wire"))

-- both numbers are within the limits of `make`
pub record IsAllowed (script : Script) : Type 0 where
  pub some : 0 < script.count
  pub few : script.count ≤ MAKE_LIMIT
  pub small : script.seed < SEED_LIMIT

-- these texts are numbers within the limits of `make`, as a script spells numbers
pub record AreOf (first second : List ℕ) (count seed : ℕ) : Type 0 where
  pub first_is : first ≡ decimal count
  pub second_is : second ≡ decimal seed
  pub some : 0 < count
  pub few : count ≤ MAKE_LIMIT
  pub small : seed < SEED_LIMIT

-- the words are `make N SEED`
abbrev pub IsMake : List (List ℕ) → ℕ → ℕ → Type 0
IsMake (make ∷ first ∷ second ∷ []) count seed = (make ≡ codes "make") × AreOf first second count seed
IsMake _ count seed = ⊥

-- the words ask for this in a world
abbrev pub IsTask : List (List ℕ) → Task → Type 0
IsTask words (Replay options) = IsReplay words options
IsTask words (Make script) = IsMake words script.count script.seed

-- the words are `check` alone
abbrev pub IsCheck : List (List ℕ) → Type 0
IsCheck words = words ≡ codes "check" ∷ []

-- the words are `hit` alone
abbrev pub IsHit : List (List ℕ) → Type 0
IsHit words = words ≡ codes "hit" ∷ []

-- the words ask for this text
abbrev pub Asks : List (List ℕ) → List ℕ → Type 0
Asks words text =
    ((words ≡ codes "--help" ∷ []) × (text ≡ help))
    ⊎ (((words ≡ codes "--version" ∷ []) × (text ≡ version))
    ⊎ (((words ≡ codes "replay" ∷ codes "--help" ∷ []) × (text ≡ replay_help))
    ⊎ (((words ≡ codes "make" ∷ codes "--help" ∷ []) × (text ≡ make_help))
    ⊎ (((words ≡ codes "check" ∷ codes "--help" ∷ []) × (text ≡ check_help))
    ⊎ ((words ≡ codes "hit" ∷ codes "--help" ∷ []) × (text ≡ hit_help))))))

-- the words ask for some text
abbrev pub IsTold : List (List ℕ) → Type 0
IsTold words = (text : List ℕ) × Asks words text

-- the words ask for a replay, or for a script to be made
abbrev pub IsReplayed : List (List ℕ) → Type 0
IsReplayed words = (options : TraceOptions) × IsReplay words options

abbrev pub IsMade : List (List ℕ) → Type 0
IsMade words = (count : ℕ) × (seed : ℕ) × IsMake words count seed

-- the words ask for an end on a socket
abbrev pub IsLiveCommand : List (List ℕ) → Type 0
IsLiveCommand words = (service : Service) × (path : List ℕ) × (rounds : ℕ) × IsLive words service path rounds

-- the words are those of a command
abbrev pub IsCommand : List (List ℕ) → Type 0
IsCommand words =
    IsReplayed words ⊎ (IsMade words ⊎ (IsCheck words ⊎ (IsTold words ⊎ (IsLiveCommand words ⊎ IsHit words))))

-- the text was written, and the status is the one that is due; or a front of it was, and the status is 4
abbrev pub Tells : ℕ → List ℕ → ℕ → Option (List ℕ) → Option (List ℕ) → Type 0
Tells due text status w w' = ((status ≡ due) × Appends w w' text) ⊎ ((status ≡ 4) × AppendsPart w w' text)
