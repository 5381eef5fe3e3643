use Rattle.std.proofs.Common.{◌≡◌, ◌≢◌, Vec, Global, ◌∷◌, List, ℕ, arith, subst, ap, ◌∙◌, sym, refl, Ok, Some, None}
use Rattle.std.specs.Prelude.{Option, slice_index, codes}
use Rattle.std.specs.Option.{ok_or}
use Rattle.scenario.specs.Words.{words}
use Rattle.scenario.specs.Accumulators.{Makes, Opens, Proper}
use Rattle.scenario.proofs.Naming.{behind, first_same}
use Rattle.scenario.proofs.Telling.{told_of, told_found, tells_on, finds_on}
use Rattle.scenario.specs.declared.Reads.{Reads}
use Rattle.scenario.specs.declared.alone.SingleCall.TheVariants as single
use Rattle.scenario.specs.declared.calls.Call.{Call as CallOf}
use Rattle.scenario.specs.declared.calls.Call.TheVariants.{Update, Merge, Convert, Evaluate, State, Single}
use Rattle.scenario.specs.declared.commands.Command.{Command}
use Rattle.scenario.specs.declared.commands.Command.TheVariants.{Make, Open, Call}
use Rattle.scenario.specs.declared.makings.Making.{Making}
use Rattle.scenario.specs.Names.{call_name, command_name}
use Rattle.scenario.proofs.commands.read.Goals as goal
use denote.Ref.{Bor}

-- the words of a line, of which the first is known
line_words : (text line : Bor (List ℕ)) (first name : List ℕ) (more : List (List ℕ)) → text ≡ line → words text.now ≡ first ∷ more → first ≡ name → words line.now ≡ name ∷ more
line_words text line first name more same is known = ap (λ t. words t.now) (sym same) ∙ is ∙ ap (λ n. n ∷ more) known

-- a value that has to be there
some_of : {X E : Type 0} (o : Option X) (e : E) (x : X) → Ok x ≡ ok_or o e → o ≡ Some x
some_of None e x is = cc
some_of (Some y) e x is = cc

pub returns-in_ok-read_making-in-make : goal.returns-in_ok-read_making-in-make
returns-in_ok-read_making-in-make c =
    let is = line_words c.of-words.result.rest c.args.line c.in_ok-name.name.now _ (words c.needed.new.self.rest.now) c.of-words.ensures c.in_ok-name.ensures c.in-make.is in
    record {
      read = (words c.needed.new.self.rest.now, is, c.in_ok-read_making-in-make.ensures);
      makes = λ m more also asks. refl;
      emits = λ a some plain. refl;
    }

pub returns-in_ok-opened-in-open : goal.returns-in_ok-opened-in-open
returns-in_ok-opened-in-open c =
    let is = line_words c.of-words.result.rest c.args.line c.in_ok-name.name.now _ (words c.needed.new.self.rest.now) c.of-words.ensures c.in_ok-name.ensures c.in-open.is in
    record {
      read = (words c.needed.new.self.rest.now, is, c.in_ok-opened-in-open.ensures);
      makes = λ m more also asks. refl;
      emits = λ a some plain. refl;
    }

pub returns-in_err-read_making-in-make-clause-makes : goal.returns-in_err-read_making-in-make-clause-makes
returns-in_err-read_making-in-make-clause-makes c = λ m more also asks.
    let is = line_words c.of-words.result.rest c.args.line c.in_ok-name.name.now _ (words c.needed.new.self.rest.now) c.of-words.ensures c.in_ok-name.ensures c.in-make.is in
    absurd (told_of _ _ c.read_making.result c.in_err-read_making-in-make.field-0.0 c.read_making.ensures c.in_err-read_making-in-make.was
    m (subst (Makes m) (behind _ _ _ _ _ also is) asks))

pub returns-in_ok-read_call-in_default-clause-read : goal.returns-in_ok-read_call-in_default-clause-read
returns-in_ok-read_call-in_default-clause-read c = (
  words c.needed.new.self.rest.now,
  line_words c.of-words.result.rest c.args.line c.in_ok-name.name.now _ (words c.needed.new.self.rest.now) c.of-words.ensures c.in_ok-name.ensures c.in_ok-read_call-in_default.ensures.answer.0,
  (c.in_ok-reads-in_default.reads, some_of c.args.reads _ c.in_ok-reads-in_default.reads c.in_ok-reads-in_default.ensures.value, c.in_ok-read_call-in_default.ensures.answer.1),
)

-- no call is named as a making or as a list of open groups
no_make : (call : CallOf) → call_name call ≢ codes "make"
no_make (Update batch filter) is = let first : 117 ≡ 109 = ap (λ t. slice_index t 0) is in omega (arith, first)
no_make (Merge batch flags) is = let second : 101 ≡ 97 = ap (λ t. slice_index t 1) is in omega (arith, second)
no_make (Convert columns filter room) is = let first : 99 ≡ 109 = ap (λ t. slice_index t 0) is in omega (arith, first)
no_make (Evaluate leaving room) is = let first : 101 ≡ 109 = ap (λ t. slice_index t 0) is in omega (arith, first)
no_make (State leaving room) is = let first : 115 ≡ 109 = ap (λ t. slice_index t 0) is in omega (arith, first)
no_make (Single (single.Update columns)) is = let first : 117 ≡ 109 = ap (λ t. slice_index t 0) is in omega (arith, first)
no_make (Single (single.Merge columns flags)) is = let second : 101 ≡ 97 = ap (λ t. slice_index t 1) is in omega (arith, second)
no_make (Single (single.Evaluate room)) is = let first : 101 ≡ 109 = ap (λ t. slice_index t 0) is in omega (arith, first)
no_make (Single (single.State room)) is = let first : 115 ≡ 109 = ap (λ t. slice_index t 0) is in omega (arith, first)

no_open : (call : CallOf) → call_name call ≢ codes "open"
no_open (Update batch filter) is = let first : 117 ≡ 111 = ap (λ t. slice_index t 0) is in omega (arith, first)
no_open (Merge batch flags) is = let first : 109 ≡ 111 = ap (λ t. slice_index t 0) is in omega (arith, first)
no_open (Convert columns filter room) is = let first : 99 ≡ 111 = ap (λ t. slice_index t 0) is in omega (arith, first)
no_open (Evaluate leaving room) is = let first : 101 ≡ 111 = ap (λ t. slice_index t 0) is in omega (arith, first)
no_open (State leaving room) is = let first : 115 ≡ 111 = ap (λ t. slice_index t 0) is in omega (arith, first)
no_open (Single (single.Update columns)) is = let first : 117 ≡ 111 = ap (λ t. slice_index t 0) is in omega (arith, first)
no_open (Single (single.Merge columns flags)) is = let first : 109 ≡ 111 = ap (λ t. slice_index t 0) is in omega (arith, first)
no_open (Single (single.Evaluate room)) is = let first : 101 ≡ 111 = ap (λ t. slice_index t 0) is in omega (arith, first)
no_open (Single (single.State room)) is = let first : 115 ≡ 111 = ap (λ t. slice_index t 0) is in omega (arith, first)

-- a line that begins so asks for an accumulator, or is a list of open groups
made_of : (reads : Option Reads) (ws more others : List (List ℕ)) (command : Command) → ws ≡ codes "make" ∷ more → ws ≡ command_name command ∷ others → Proper reads command others → (m : Making) × Makes m more
made_of reads ws more others (Make m) is also proper = (m, subst (Makes m) (behind _ _ ws others more also is) proper)
made_of reads ws more others (Open list) is also proper = let first : 111 ≡ 109 = ap (λ t. slice_index t 0) (first_same _ _ ws others more also is) in absurd (omega (arith, first))
made_of reads ws more others (Call call) is also proper = absurd (no_make call (first_same _ _ ws others more also is))

opened_of : (reads : Option Reads) (ws more others : List (List ℕ)) (command : Command) → ws ≡ codes "open" ∷ more → ws ≡ command_name command ∷ others → Proper reads command others → (list : Vec ℕ Global) × Opens list.items more
opened_of reads ws more others (Make m) is also proper = let first : 109 ≡ 111 = ap (λ t. slice_index t 0) (first_same _ _ ws others more also is) in absurd (omega (arith, first))
opened_of reads ws more others (Open list) is also proper = (list, subst (Opens list.items) (behind _ _ ws others more also is) proper)
opened_of reads ws more others (Call call) is also proper = absurd (no_open call (first_same _ _ ws others more also is))

pub returns-in_err-read_making-in-make-clause-read : goal.returns-in_err-read_making-in-make-clause-read
returns-in_err-read_making-in-make-clause-read c =
    let is = line_words c.of-words.result.rest c.args.line c.in_ok-name.name.now _ (words c.needed.new.self.rest.now) c.of-words.ensures c.in_ok-name.ensures c.in-make.is in
    told_found _ _ c.from_residual-in_err-read_making-in-make.result
    (tells_on _ _ _ c.read_making.result c.from_residual-in_err-read_making-in-make.result c.in_err-read_making-in-make.field-0.0 c.read_making.ensures c.in_err-read_making-in-make.was c.from_residual-in_err-read_making-in-make.ensures.1 (λ f h. h)
    (λ command asked. made_of c.args.reads _ _ asked.0 command is asked.1 asked.2))

pub returns-in_err-opened-in-open-clause-read : goal.returns-in_err-opened-in-open-clause-read
returns-in_err-opened-in-open-clause-read c =
    let is = line_words c.of-words.result.rest c.args.line c.in_ok-name.name.now _ (words c.needed.new.self.rest.now) c.of-words.ensures c.in_ok-name.ensures c.in-open.is in
    finds_on _ _ _ c.opened.result c.from_residual-in_err-opened-in-open.result c.in_err-opened-in-open.field-0.0 c.opened.ensures c.in_err-opened-in-open.was c.from_residual-in_err-opened-in-open.ensures.1 (λ f h. h)
    (λ command asked. opened_of c.args.reads _ _ asked.0 command is asked.1 asked.2)
