-- What an end makes of a whole line.
use Rattle.std.specs.Prelude.{ℕ, ◌+◌, nat_lt, if◌then◌else◌, List, length, codes, bytes_eq, Some, None}
use Rattle.atspi_auth.specs.Requests.{request_of, is_grant}
use Rattle.atspi_auth.specs.declared.fault.AuthFault.TheVariants.{TooLong, Early, Rejected as NotAwaited}
use Rattle.atspi_auth.specs.declared.said.AuthLine.TheVariants.{Granted, Data, Rejected, Error, Begin}
use Rattle.atspi_auth.specs.declared.request.Request.{Request}
use Rattle.atspi_auth.specs.declared.request.Request.TheVariants.{Login, Ask, OtherAuth, Uid, OtherData, Cancel}
use Rattle.atspi_auth.specs.declared.request.Request.TheVariants.{Begin as AsksBegin, Error as SaysError}
use Rattle.atspi_auth.specs.declared.reply.Waiting.{Waiting}
use Rattle.atspi_auth.specs.declared.reply.Waiting.TheVariants.{ForAuth, ForData, ForBegin, ForChallenge, ForOk}
use Rattle.atspi_auth.specs.declared.reply.Reply.{Reply}
use Rattle.atspi_auth.specs.declared.reply.Reply.TheVariants.{Say, End, Fail}

-- what a server says, and what it then waits for
unfoldable pub server_reply : Waiting → Request → Reply
server_reply ForAuth Login = Say Granted ForBegin
server_reply ForAuth Ask = Say Data ForData
server_reply ForAuth OtherAuth = Say Rejected ForAuth
server_reply ForData Uid = Say Granted ForBegin
server_reply ForData OtherData = Say Rejected ForAuth
server_reply ForData Cancel = Say Rejected ForAuth
server_reply ForBegin AsksBegin = End None
server_reply ForBegin Cancel = Say Rejected ForAuth
-- an ERROR begins anew, in every state
server_reply waiting SaysError = Say Rejected ForAuth
server_reply waiting AsksBegin = Fail Early
-- whatever else is out of place or not known
server_reply waiting request = Say Error waiting

-- what a line brings, whatever its length
unfoldable pub reply_to : Waiting → List ℕ → Reply
reply_to ForChallenge line = if bytes_eq line (codes "DATA") then Say Data ForOk else Fail NotAwaited
reply_to ForOk line = if is_grant line then End (Some Begin) else Fail NotAwaited
reply_to waiting line = server_reply waiting (request_of line)

-- what a whole line brings: it has 16,384 bytes at most, with its CR LF
unfoldable pub answer : Waiting → List ℕ → Reply
answer waiting line = if nat_lt 16384 (length line + 2) then Fail TooLong else reply_to waiting line
