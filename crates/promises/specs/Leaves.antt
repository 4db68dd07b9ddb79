-- What a run of `drive::start`, of `drive::answer_line` (a call for one line), of
-- `drive::answer_session`, of `discovery::write` and `discovery::read`, of
-- `ttlv::read` and `ttlv::write`, and of `tuffaleen_wrap`, `tuffaleen_unwrap` and `tuffaleen_message` leaves: values that
-- meet the function's contract.
-- In `args` and `exit`, .0 is the first parameter, .1 .0 the second, and so on.
-- Assumes nothing.
use Rattle.std.specs.Prelude.{◌≡◌, List, ℕ, Result}
use Rattle.rules.specs.State.{State, Outcome}
use Rattle.rules.specs.Call.{Called}
use Rattle.rules.specs.Sessions.{Session}
use Rattle.rules.specs.declared.Refusal.{Refusal}
use Rattle.rules.specs.declared.DiscoveryFields.{DiscoveryFields}
use Rattle.rules.specs.declared.Discovered.{Discovered}
use Rattle.rules.specs.Discovering.{Responded}
use Rattle.discovery.proofs.write.Reads as discovery-write
use Rattle.discovery.proofs.read.Reads as discovery-read
use Rattle.ttlv.specs.Listing.{Reading}
use Rattle.ttlv.specs.Writing.{Wrote}
use Rattle.ttlv.proofs.read.Reads as ttlv-read
use Rattle.ttlv.proofs.write.Reads as ttlv-write
use Rattle.drive.specs.Acting.{state, outcome}
use Rattle.tuffaleen_c.specs.Courier.{CUnwrapped}
use Rattle.tuffaleen_c.specs.Office.{CMessage}
use Rattle.tuffaleen_c.proofs.tuffaleen_message.Reads as tuffaleen-c-message
use Rattle.tuffaleen_c.proofs.tuffaleen_wrap.Reads as tuffaleen-c-wrap
use Rattle.tuffaleen_c.proofs.tuffaleen_unwrap.Reads as tuffaleen-c-unwrap
use Rattle.drive.proofs.start.Reads as drive-start
use Rattle.drive.proofs.answer_line.Reads as drive-answer-line
use Rattle.drive.proofs.answer_session.Reads as drive-answer-session

-- A function's contract as its callers learn it is a relation of the arguments, the result, and what was lent as it is at the exit.
pub record Run {Lifetimes : Type 0} {Args Result Exit : Lifetimes → Type 0}
    (Contract : (κs : Lifetimes) → Args κs → Result κs → Exit κs → Type 0) : Type 0 where
  pub κs : Lifetimes
  pub args : Args κs
  pub result : Result κs
  pub exit : Exit κs
  pub meets : Contract κs args result exit

-- start(kek, keys, marks)
pub record StartLeaves (kek keys store : List ℕ) (o : Outcome) : Type 0 where
  pub run : Run drive-start.Learnt
  pub on_kek : run.args.0.now ≡ kek
  pub on_cache : run.args.1.0.now ≡ keys
  pub on_store : run.args.1.1.0.now ≡ store
  pub leaves : o ≡ outcome run.result run.exit.1.0.now run.exit.1.1.0.now

-- answer_line(registers, keys, marks, line, out), on a state
pub record CallLeaves (s : State) (line out : List ℕ) (o : Called) : Type 0 where
  pub run : Run drive-answer-line.Learnt
  pub on_state : state run.args.0 run.args.1.0.now run.args.1.1.0.now ≡ s
  pub on_line : run.args.1.1.1.0.now ≡ line
  pub on_out : run.args.1.1.1.1.0.now ≡ out
  pub leaves : o ≡ record {
    answer = run.result.answer;
    state = state run.result.registers run.exit.1.0.now run.exit.1.1.0.now;
    bytes = run.result.bytes;
    out = run.exit.1.1.1.1.0.now;
  }

-- answer_session(registers, keys, marks, text, out), on a state
pub record SessionLeaves (s : State) (text out : List ℕ) (o : Session) : Type 0 where
  pub run : Run drive-answer-session.Learnt
  pub on_state : state run.args.0 run.args.1.0.now run.args.1.1.0.now ≡ s
  pub on_text : run.args.1.1.1.0.now ≡ text
  pub on_out : run.args.1.1.1.1.0.now ≡ out
  pub leaves : o ≡ record {
    result = run.result.result;
    state = state run.result.registers run.exit.1.0.now run.exit.1.1.0.now;
    lines = run.result.lines;
    bytes = run.result.bytes;
    out = run.exit.1.1.1.1.0.now;
  }

-- write(fields, out)
pub record ResponseLeaves (f : DiscoveryFields) (out : List ℕ) (o : Responded) : Type 0 where
  pub run : Run discovery-write.Learnt
  pub on_fields : run.args.0 ≡ f
  pub on_out : run.args.1.0.now ≡ out
  pub leaves : o ≡ record { answer = run.result; out = run.exit.1.0.now }

-- read(bytes)
pub record ReadFinds (d : List ℕ) (o : Result Discovered Refusal) : Type 0 where
  pub run : Run discovery-read.Learnt
  pub on_bytes : run.args.0.now ≡ d
  pub leaves : o ≡ run.result

-- ttlv's read(bytes, places)
pub record ListReadLeaves (xs places : List ℕ) (o : Reading) : Type 0 where
  pub run : Run ttlv-read.Learnt
  pub on_bytes : run.args.0.now ≡ xs
  pub on_places : run.args.1.0.now ≡ places
  pub leaves : o ≡ record { result = run.result; places = run.exit.1.0.now }

-- ttlv's write(items, count, values, out)
pub record ListWriteLeaves (items : List ℕ) (count : ℕ) (values out : List ℕ) (o : Wrote) : Type 0 where
  pub run : Run ttlv-write.Learnt
  pub on_items : run.args.0.now ≡ items
  pub on_count : run.args.1.0 ≡ count
  pub on_values : run.args.1.1.0.now ≡ values
  pub on_out : run.args.1.1.1.0.now ≡ out
  pub leaves : o ≡ record { result = run.result; out = run.exit.1.1.1.0.now }

-- tuffaleen_wrap(kek, bytes, words), on bytes that end with the key
pub record WrapLeaves (kek bytes left : List ℕ) : Type 0 where
  pub run : Run tuffaleen-c-wrap.Learnt
  pub on_kek : run.args.0.now ≡ kek
  pub on_bytes : run.args.1.0.now ≡ bytes
  pub leaves : left ≡ run.exit.1.0.now

-- tuffaleen_unwrap(kek, bytes, words)
pub record UnwrapLeaves (kek bytes : List ℕ) (o : CUnwrapped) : Type 0 where
  pub run : Run tuffaleen-c-unwrap.Learnt
  pub on_kek : run.args.0.now ≡ kek
  pub on_bytes : run.args.1.0.now ≡ bytes
  pub leaves : o ≡ record { number = run.result; bytes = run.exit.1.0.now }

-- tuffaleen_message(namespace, tag, uid, key, out, written)
pub record MessageLeaves (ns tag : ℕ) (uid key out : List ℕ) (o : CMessage) : Type 0 where
  pub run : Run tuffaleen-c-message.Learnt
  pub on_namespace : run.args.0 ≡ ns
  pub on_tag : run.args.1.0 ≡ tag
  pub on_uid : run.args.1.1.0.now ≡ uid
  pub on_key : run.args.1.1.1.0.now ≡ key
  pub on_out : run.args.1.1.1.1.0.now ≡ out
  pub leaves : o ≡ record { number = run.result; bytes = run.exit.1.1.1.1.1.0.now; out = run.exit.1.1.1.1.0.now }
