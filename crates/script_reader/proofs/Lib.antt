pub mod Claims
pub mod SumNodes
pub mod FewInExpressions
pub mod FewInStatements
pub mod FewInTexts
pub mod FewInTokens
