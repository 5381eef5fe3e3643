use Rattle.scenario.proofs.cells.cells.Goals as goal

pub returns-in-Number : goal.returns-in-Number
returns-in-Number c = rw c.in-Number.is c.numbers.ensures

pub returns-in-Bytes : goal.returns-in-Bytes
returns-in-Bytes c = rw c.in-Bytes.is c.strings.ensures

pub returns-in-Record : goal.returns-in-Record
returns-in-Record c = rw c.in-Record.is c.records.ensures
